use Rattle.std.proofs.Common.{◌∙◌, ◌++◌, ap, append-nil, arith, refl, sym, take, w64}
use Rattle.std.specs.Int.{trailing_zeros}
use Rattle.ssb_sets.specs.Marks.{rows_of}
use Rattle.ssb_sets.proofs.MarkRows.{bit-below, bit-set, fewer, has-room, rows_of-few, rows_of-none, writes-one}
use Rattle.ssb_sets.proofs.marks.word_rows.Goals as goal

pub bits-init : goal.bits-init
bits-init c = record { count = refl; so_far = refl; of_whole = λ i lt said. said }

pub overflow_add-rows : goal.overflow_add-rows
overflow_add-rows c =
    let below = bit-below (take c.args.left c.args.rows.now) c.args.base c.args.left c.args.word c.bits.word c.bits.left (trailing_zeros w64 c.bits.word) c.bits.rows c.bits-test.true c.bits.auto.word-fits.fits refl c.bits.invariant in
    let set = bit-set (take c.args.left c.args.rows.now) c.args.base c.args.left c.args.word c.bits.word c.bits.left (trailing_zeros w64 c.bits.word) c.bits.rows c.bits-test.true c.bits.auto.word-fits.fits refl c.bits.invariant in
    let fits = c.requires.fits (trailing_zeros w64 c.bits.word) below set in
    omega (arith, fits)

pub offset_bounds-rows-left : goal.offset_bounds-rows-left
offset_bounds-rows-left c =
    let room = c.requires.room in
    let long = c.bits.auto.rows in
    let lt = has-room (take c.args.left c.args.rows.now) c.args.base c.args.left c.args.word c.bits.word c.bits.left (trailing_zeros w64 c.bits.word) c.bits.rows c.bits-test.true c.bits.auto.word-fits.fits refl c.bits.invariant (omega (arith, room, long)) in
    omega (arith, lt)

pub bounds-rows-left : goal.bounds-rows-left
bounds-rows-left c =
    let room = c.requires.room in
    let long = c.bits.auto.rows in
    has-room (take c.args.left c.args.rows.now) c.args.base c.args.left c.args.word c.bits.word c.bits.left (trailing_zeros w64 c.bits.word) c.bits.rows c.bits-test.true c.bits.auto.word-fits.fits refl c.bits.invariant (omega (arith, room, long))

pub overflow_add-left : goal.overflow_add-left
overflow_add-left c =
    let room = c.requires.room in
    let long = c.bits.auto.rows in
    let lt = has-room (take c.args.left c.args.rows.now) c.args.base c.args.left c.args.word c.bits.word c.bits.left (trailing_zeros w64 c.bits.word) c.bits.rows c.bits-test.true c.bits.auto.word-fits.fits refl c.bits.invariant (omega (arith, room, long)) in
    omega (arith, lt)

pub bits-smaller : goal.bits-smaller
bits-smaller c = fewer (take c.args.left c.args.rows.now) c.args.base c.args.left c.args.word c.bits.word c.bits.left (trailing_zeros w64 c.bits.word) c.bits.rows c.bits-test.true c.bits.auto.word-fits.fits refl c.bits.invariant

pub bits-preserved : goal.bits-preserved
bits-preserved c =
    let room = c.requires.room in
    let long = c.bits.auto.rows in
    writes-one (take c.args.left c.args.rows.now) c.args.base c.args.left c.args.word c.bits.word c.bits.left (trailing_zeros w64 c.bits.word) c.bits.rows c.bits-test.true c.bits.auto.word-fits.fits refl c.bits.invariant
    (has-room (take c.args.left c.args.rows.now) c.args.base c.args.left c.args.word c.bits.word c.bits.left (trailing_zeros w64 c.bits.word) c.bits.rows c.bits-test.true c.bits.auto.word-fits.fits refl c.bits.invariant (omega (arith, room, long)))

pub returns-clause-rows : goal.returns-clause-rows
returns-clause-rows c =
    sym (append-nil (take c.bits.left c.bits.rows))
    ∙ ap (λ rows. take c.bits.left c.bits.rows ++ rows) (sym (ap (λ word. rows_of word c.args.base) c.bits-test.false ∙ rows_of-none c.args.base)) ∙ c.bits.invariant.so_far

pub returns-clause-count : goal.returns-clause-count
returns-clause-count c =
    let count = c.bits.invariant.count in
    let few = rows_of-few c.args.word c.args.base in
    omega (arith, count, few)

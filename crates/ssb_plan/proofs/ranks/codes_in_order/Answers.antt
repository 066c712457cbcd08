use Rattle.std.proofs.Common.{◌≡◌, Ok, [], get_or, arith, rules, refl}
use Rattle.std.proofs.lemmas.Fn.{always_returns_same}
use Rattle.std.proofs.lemmas.Iterator.{items_from_collect, YieldsList-from_range}
use Rattle.std.proofs.lemmas.List.Sorted.{ranks_by}
use Rattle.std.specs.declared.alloc.AllocError.{AllocError}
use Rattle.std.specs.Cmp.Lexicographic.{nat_list_cmp_total}
use Rattle.std.specs.List.{range_with_len}
use Rattle.std.specs.Ordering.{is_lt}
use Rattle.ssb_cells.specs.Codes.{texts_of}
use Rattle.ssb_plan.specs.Ranks.{text_order}
use Rattle.ssb_plan.proofs.ranks.codes_in_order.Goals as goal

pub returns : goal.returns
returns c =
    let texts = texts_of c.args.column.now.values in
    let n = c.text_count.result in
    let all : c.in_ok-codes.codes.items ≡ range_with_len 0 n = items_from_collect {E = AllocError} (Ok c.in_ok-codes.codes) c.in_ok-codes.ensures.ran (YieldsList-from_range 0 n n refl (omega arith)) in
    record {
      same = rw (all, c.text_count.ensures) at c.sort_unstable_by.ensures.permutation;
      sorted = c.sort_unstable_by.ensures.sorted (λ a b. is_lt (text_order texts a b)) (ranks_by nat_list_cmp_total (λ x. get_or texts x [])) (always_returns_same _ _ _ (λ a r q h. search rules));
    }

-- The queues of all lanes, and passes of each.
use Rattle.std.proofs.Common.{◌≡◌, ◌≤◌, ◌<◌, ◌+◌, ◌∙◌, ℕ, zero, suc, List, [], ◌∷◌, ◌++◌, Option, ap, append_assoc, arith, get_or, length, length-append, map, refl, set, subst, sym, take}
use Rattle.std.specs.List.{All}
use Rattle.std.proofs.Math.Seq.{map-set_same}
use Rattle.std.proofs.lemmas.List.{append-nil, get_or-map, length-map, map-append, map-set, take_all, take_more}
use Rattle.std.proofs.lemmas.List.Elements.{All-get_or, All-push, All-set}
use Rattle.atomic_table.specs.Seated.{TableId}
use Rattle.crossbeam_queue.specs.declared.array_queue.Doing.{Doing}
use Rattle.crossbeam_queue.specs.declared.array_queue.Slotted.{Slotted}
use Rattle.crossbeam_queue.specs.Passes.{IsPassOf, IsSamePass, Pass, view}
use Rattle.ssb_lanes.specs.Berth.{AreOfEach, queue_name}
use Rattle.ssb_lanes.specs.Joined.{sources_in}
use Rattle.ssb_lanes.specs.declared.lane.Lane.{Lane}

-- where two lists have one image, so have their elements
image_at : {A B N : Type 0} (f : A → N) (h : B → N) (xs : List A) (ys : List B) (i : ℕ) (x : A) (y : B) → map f xs ≡ map h ys → i < length xs → i < length ys → x ≡ get_or xs i x → y ≡ get_or ys i y → f x ≡ h y
image_at f h xs ys i x y e inx iny is_x is_y =
    ap f is_x ∙ (sym (get_or-map f xs i x (f x) inx) ∙ (ap (λ l. get_or l i (f x)) e ∙ (get_or-map h ys i y (f x) iny ∙ ap h (sym is_y))))

as-long : {A B N : Type 0} (f : A → N) (h : B → N) (xs : List A) (ys : List B) → map f xs ≡ map h ys → length xs ≡ length ys
as-long f h xs ys e = sym (length-map xs f) ∙ ap length e ∙ length-map ys h

-- what is told of the values of a list, one more
pub image-more : {A B : Type 0} (f : A → B) (xs : List A) (ys : List B) (i : ℕ) (x : A) → map f xs ≡ take i ys → i < length ys → f x ≡ get_or ys i (f x) → map f (xs ++ x ∷ []) ≡ take (i + 1) ys
image-more f xs ys i x e in_ys is = map-append f xs (x ∷ []) ∙ ((λ k. e k ++ is k ∷ []) ∙ sym (take_more ys i (f x) in_ys))

-- the value at a place of an image
at-image : {A B : Type 0} (f : A → B) (xs : List A) (i : ℕ) (x : A) (d : B) → i < length xs → x ≡ get_or xs i x → get_or (map f xs) i d ≡ f x
at-image f xs i x d lt is = get_or-map f xs i x d lt ∙ ap f (sym is)

-- all values are one
pub all-same : {A B C : Type 0} (f : A → B) (b : B) (xs : List A) (ys : List C) → All (λ x. f x ≡ b) xs → length ys ≡ length xs → map f xs ≡ map (λ _. b) ys
all-same f b [] [] h len = refl
all-same f b [] (y ∷ ys) h len = cc len
all-same f b (x ∷ xs) [] h len = cc len
all-same f b (x ∷ xs) (y ∷ ys) h len =
    let rest : map f xs ≡ map (λ _. b) ys = all-same f b xs ys (λ i d lt. h (suc i) d (omega arith)) (omega (arith, len)) in
    let here : f x ≡ b = h 0 x (omega arith) in
    (λ k. here k ∷ rest k)

-- what is told of the source of each lane
pub of-sources : {S W : Type 0} (f : S → W) (lanes : List (Lane S)) → map f (sources_in lanes) ≡ map (λ l. f l.source) lanes
of-sources f [] = refl
of-sources f (l ∷ ls) = ap (λ t. f l.source ∷ t) (of-sources f ls)

-- two images, one after the other
pub image-of : {A B C : Type 0} (f : A → B) (h : B → C) (xs : List A) → map h (map f xs) ≡ map (λ x. h (f x)) xs
image-of f h [] = refl
image-of f h (x ∷ xs) = ap (λ t. h (f x) ∷ t) (image-of f h xs)

-- the first value that is left, and the list where it is exchanged
get-next : {A B : Type 0} (f : A → B) (n d : B) (done : List A) (ys : List B) → get_or (map f done ++ n ∷ ys) (length done) d ≡ n
get-next f n d [] ys = refl
get-next f n d (x ∷ xs) ys = get-next f n d xs ys

set-next : {A B : Type 0} (f : A → B) (n w : B) (done : List A) (ys : List B) → set (map f done ++ n ∷ ys) (length done) w ≡ map f done ++ w ∷ ys
set-next f n w [] ys = refl
set-next f n w (x ∷ xs) ys = ap (λ t. f x ∷ t) (set-next f n w xs ys)

-- the next place lies in the list
pub inside-next : {A : Type 0} (done : List A) (x : A) (rest all : List A) (i : ℕ) → done ++ x ∷ rest ≡ all → i ≡ length done → i < length all
inside-next done x rest all i is at =
    let n = length-append done (x ∷ rest) in
    let e = ap length is in
    omega (arith, n, e, at)

-- what holds of each image
pub all-image : {A B : Type 0} (P : B → Type 0) (f : A → B) (xs : List A) → ((x : A) → P (f x)) → All P (map f xs)
all-image P f xs h i d lt =
    let n = length-map xs f in
    here xs i d (omega (arith, n, lt))
  where
    here : (ys : List _) (j : ℕ) (e : _) → j < length ys → P (get_or (map f ys) j e)
    here [] j e lt = absurd (omega (arith, lt))
    here (y ∷ ys) zero e lt = h y
    here (y ∷ ys) (suc j) e lt = here ys j e (omega (arith, lt))

module _ {T V : Type 0} where
  abbrev name_of : Pass T V → TableId
  name_of p = p.table_id

  abbrev IsAtRest : Pass T V → Type 0
  IsAtRest p = p.me.1 ≡ []

  pub view-same : (ps : List (Pass T V)) (i : ℕ) (p new : Pass T V) → p ≡ get_or ps i p → view new ≡ view p → map view (set ps i new) ≡ map view ps
  view-same ps i p new is same = map-set_same view ps i new p (same ∙ ap view is)

  -- what holds of each view holds of this one
  pub knows-at : (P : V → Type 0) (ps : List (Pass T V)) (i : ℕ) (p : Pass T V) → All P (map view ps) → i < length ps → p ≡ get_or ps i p → P (view p)
  knows-at P ps i p all lt is =
      let n = length-map ps view in
      subst P (at-image view ps i p (view p) lt is) (All-get_or P (map view ps) i (view p) (omega (arith, n, lt)) all)

  -- what is told of a view
  pub told-at : {B : Type 0} (f : V → B) (ps before : List (Pass T V)) (i : ℕ) (p : Pass T V) (d : B) → map view ps ≡ map view before → i < length ps → p ≡ get_or ps i p → get_or (map f (map view before)) i d ≡ f (view p)
  told-at f ps before i p d same lt is =
      let n = length-map ps view in
      ap (λ vs. get_or (map f vs) i d) (sym same) ∙ (get_or-map f (map view ps) i (view p) d (omega (arith, n, lt)) ∙ ap f (at-image view ps i p (view p) lt is))

  pub view-at : (ps before : List (Pass T V)) (i : ℕ) (p : Pass T V) (d : V) → map view ps ≡ map view before → i < length ps → p ≡ get_or ps i p → get_or (map view before) i d ≡ view p
  view-at ps before i p d same lt is = ap (λ vs. get_or vs i d) (sym same) ∙ at-image view ps i p d lt is

  -- lanes are laid one after the other: the next pass knows nothing, and then of its lane
  pub next-view : {A : Type 0} (f : A → V) (n : V) (done : List A) (x : A) (rest : List A) (ps : List (Pass T V)) (i : ℕ) (p : Pass T V) → map view ps ≡ map f done ++ map (λ _. n) (x ∷ rest) → i ≡ length done → i < length ps → p ≡ get_or ps i p → view p ≡ n
  next-view f n done x rest ps i p are at lt is =
      sym (at-image view ps i p n lt is) ∙ (ap (λ vs. get_or vs i n) are ∙ (ap (λ j. get_or (map f done ++ n ∷ map (λ _. n) rest) j n) at ∙ get-next f n n done (map (λ _. n) rest)))

  pub lay-next : {A : Type 0} (f : A → V) (n : V) (done : List A) (x : A) (rest : List A) (ps : List (Pass T V)) (i : ℕ) (new : Pass T V) → map view ps ≡ map f done ++ map (λ _. n) (x ∷ rest) → i ≡ length done → view new ≡ f x
      → map view (set ps i new) ≡ map f (done ++ x ∷ []) ++ map (λ _. n) rest
  lay-next f n done x rest ps i new are at knows =
      map-set view ps i new ∙ ((λ k. set (are k) (at k) (knows k)) ∙ (set-next f n (f x) done (map (λ _. n) rest) ∙ (sym (append_assoc (map f done) (f x ∷ []) (map (λ _. n) rest)) ∙ ap (λ t. t ++ map (λ _. n) rest) (sym (map-append f done (x ∷ []))))))

  pub lay-all : {A : Type 0} (f : A → V) (n : V) (done rest all : List A) (ps : List (Pass T V)) → map view ps ≡ map f done ++ map (λ _. n) rest → rest ≡ [] → done ++ rest ≡ all → map view ps ≡ map f all
  lay-all f n done rest all ps are none is =
      let nothing = ap (λ r. map (λ _. n) r) none in
      are ∙ (ap (λ t. map f done ++ t) nothing ∙ (append-nil (map f done) ∙ ap (map f) (sym (append-nil done) ∙ (ap (λ r. done ++ r) (sym none) ∙ is))))

module _ {T V Q A : Type 0} where
  pub passes-long : (qs : List (Slotted (Option T) (Doing T V) Q A)) (ps : List (Pass T V)) → AreOfEach qs ps → length ps ≡ length qs
  passes-long qs ps of = as-long name_of queue_name ps qs of.names

  pub pass-at : (qs : List (Slotted (Option T) (Doing T V) Q A)) (ps : List (Pass T V)) (i : ℕ) (q : Slotted (Option T) (Doing T V) Q A) (p : Pass T V) → AreOfEach qs ps → i < length qs → q ≡ get_or qs i q → p ≡ get_or ps i p → IsPassOf q p
  pass-at qs ps i q p of lt is_q is_p =
      let long = passes-long qs ps of in
      (image_at name_of queue_name ps qs i p q of.names (omega (arith, lt, long)) lt is_p is_q, subst IsAtRest (sym is_p) (All-get_or IsAtRest ps i p (omega (arith, lt, long)) of.rest))

  pub pass-set : (qs : List (Slotted (Option T) (Doing T V) Q A)) (ps : List (Pass T V)) (i : ℕ) (p new : Pass T V) → AreOfEach qs ps → i < length qs → p ≡ get_or ps i p → IsSamePass p new → AreOfEach qs (set ps i new)
  pass-set qs ps i p new of lt is same =
      let long = passes-long qs ps of in record {
        names = map-set_same name_of ps i new p (same.0 ∙ ap name_of is) ∙ of.names;
        rest = All-set IsAtRest ps i new (same.2 ∙ subst IsAtRest (sym is) (All-get_or IsAtRest ps i p (omega (arith, lt, long)) of.rest)) of.rest;
      }

  pub each-more : (qs : List (Slotted (Option T) (Doing T V) Q A)) (ps : List (Pass T V)) (q : Slotted (Option T) (Doing T V) Q A) (p : Pass T V) → AreOfEach qs ps → IsPassOf q p → AreOfEach (qs ++ q ∷ []) (ps ++ p ∷ [])
  each-more qs ps q p of is = record {
    names = map-append name_of ps (p ∷ []) ∙ ((λ k. of.names k ++ is.0 k ∷ []) ∙ sym (map-append queue_name qs (q ∷ [])));
    rest = All-push IsAtRest ps p of.rest is.1;
  }

  -- a thread's passes of the queues before this place
  pub record AreHanded (qs : List (Slotted (Option T) (Doing T V) Q A)) (views : List V) (at : ℕ) (ps : List (Pass T V)) : Type 0 where
    pub names : map name_of ps ≡ take at (map queue_name qs)
    pub rest : All IsAtRest ps
    pub known : map view ps ≡ take at views

  pub handed-more : (qs : List (Slotted (Option T) (Doing T V) Q A)) (views : List V) (at : ℕ) (ps : List (Pass T V)) (q : Slotted (Option T) (Doing T V) Q A) (p : Pass T V) → AreHanded qs views at ps → at < length qs → length views ≡ length qs → q ≡ get_or qs at q → IsPassOf q p
      → view p ≡ get_or views at (view p) → AreHanded qs views (at + 1) (ps ++ p ∷ [])
  handed-more qs views at ps q p handed lt long is of here =
      let n = length-map qs queue_name in record {
        names = image-more name_of ps (map queue_name qs) at p handed.names (omega (arith, n, lt)) (of.0 ∙ sym (at-image queue_name qs at q (name_of p) lt is));
        rest = All-push IsAtRest ps p handed.rest of.1;
        known = image-more view ps views at p handed.known (omega (arith, long, lt)) here;
      }

  pub handed-all : (qs : List (Slotted (Option T) (Doing T V) Q A)) (views : List V) (at : ℕ) (ps : List (Pass T V)) → AreHanded qs views at ps → length qs ≤ at → AreOfEach qs ps
  handed-all qs views at ps handed le =
      let n = length-map qs queue_name in
      record { names = handed.names ∙ take_all at (map queue_name qs) (omega (arith, n, le)); rest = handed.rest }

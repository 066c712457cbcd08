-- A worker's pass, when its pass of one section has changed.
use Rattle.std.proofs.Common.{◌≡◌, ◌≢◌, ◌⊎◌, inl, inr, ℕ, ◌<◌, ◌≤◌, ◌+◌, ◌-◌, ◌++◌, ◌∷◌, take, true, false, List, [], length, length-append, map, get_or, set, sym, refl, ap, ◌∙◌, subst, arith}
use Rattle.std.proofs.lemmas.List.{get_or-map, map-set, map-append, length-map, length-set, get_or-set_other, take_more, take_all, get_or_append_left, get_or-append_right}
use Rattle.std.proofs.lemmas.Grind.{get_or-set_at}
use Rattle.std.proofs.lemmas.Bool.{cases_eq}
use Rattle.std.proofs.lemmas.List.Elements.{All-get_or, All-nil, All-set, All-push}
use Rattle.std.proofs.Math.Seq.{map-set_same}
use Rattle.std.specs.List.{All}
use Rattle.atomic_table.specs.Seated.{TableId}
use Rattle.crossbeam_queue.specs.Passes.{Pass, view}
use Rattle.ssb_plan.specs.JobShape.{JobShape}
use Rattle.ssb_pipeline.specs.Part.{Follows, IsOpening, PartState}
use Rattle.ssb_pipeline.specs.Rule.{Knows, knows, fresh, newcomer}
use Rattle.ssb_pipeline.specs.Pass.{AllSections, HoldsNone, IsAtRest, IsPartOf, IsPassOfParts, IsUnused, IsViewOf, KnowsNothing, PartsState, PassState, known, knowing, newcomers, pass_name, pass_view}

-- where two lists have one image, so have their elements
pub image_at : {A B N : Type 0} (f : A → N) (h : B → N) (xs : List A) (ys : List B) (i : ℕ) (x : A) (y : B) → map f xs ≡ map h ys → i < length xs → i < length ys → x ≡ get_or xs i x → y ≡ get_or ys i y → f x ≡ h y
image_at f h xs ys i x y e inx iny is_x is_y =
    ap f is_x ∙ (sym (get_or-map f xs i x (f x) inx) ∙ (ap (λ l. get_or l i (f x)) e ∙ (get_or-map h ys i y (f x) iny ∙ ap h (sym is_y))))

-- P of each element holds of this one
pub each_at : {A : Type 0} (P : A → Type 0) (xs : List A) (i : ℕ) (x : A) → All P xs → i < length xs → x ≡ get_or xs i x → P x
each_at P xs i x all in_xs is = subst P (sym is) (All-get_or P xs i x in_xs all)

abbrev pub Own : Type 0
Own = Pass PartState Knows

abbrev pub state_of : List Own → PassState
state_of ps = record { queues = map pass_name ps; views = map pass_view ps }

-- what it knows of a section is what its pass there knows
pub known_at : (ps : List Own) (i : ℕ) (p : Own) → i < length ps → p ≡ get_or ps i p → known (state_of ps) i ≡ view p
known_at ps i p in_ps is = get_or-map pass_view ps i p fresh in_ps ∙ ap pass_view (sym is)

pub known_in : (ps : List Own) (P : PassState) (i : ℕ) (p : Own) → state_of ps ≡ P → i < length ps → p ≡ get_or ps i p → known P i ≡ view p
known_in ps P i p same in_ps is = ap (λ q. known q i) (sym same) ∙ known_at ps i p in_ps is

pub now_knows : (ps : List Own) (i : ℕ) (p q : Own) (w : Knows → Knows) → i < length ps → p ≡ get_or ps i p → q.table_id ≡ p.table_id → view q ≡ w (view p) → state_of (set ps i q) ≡ knowing (state_of ps) i (w (known (state_of ps) i))
now_knows ps i p q w in_ps is same knows =
    let names : map pass_name (set ps i q) ≡ map pass_name ps = map-set_same pass_name ps i q p (same ∙ ap pass_name is) in
    let views : map pass_view (set ps i q) ≡ set (map pass_view ps) i (w (known (state_of ps) i)) = map-set pass_view ps i q ∙ ap (λ v. set (map pass_view ps) i v) (knows ∙ ap w (sym (known_at ps i p in_ps is))) in
    λ k. record { queues = names k; views = views k }

-- a section that the image of a list has, the list has too
pub in_image : {A B : Type 0} (f : A → B) (xs : List A) (ys : List B) (i : ℕ) → map f xs ≡ ys → i < length ys → i < length xs
in_image f xs ys i e in_ys = let h = ap length e in let k = length-map xs f in omega arith

-- two lists with one image are as long
pub beside : {A B N : Type 0} (f : A → N) (h : B → N) (xs : List A) (ys : List B) (i : ℕ) → map f xs ≡ map h ys → i < length ys → i < length xs
beside f h xs ys i e in_ys = let a = ap length e in let b = length-map xs f in let c = length-map ys h in omega arith

-- what holds of each section, and of what is now known of one, holds afterwards
at_knowing : (F : ℕ → Knows → Type 0) (p : PassState) (i : ℕ) (w : Knows) (s : ℕ) → ((s ≢ i) → F s (known p s)) → F i w → i < length p.views → ((s ≡ i) ⊎ (s ≢ i)) → F s (known (knowing p i w) s)
at_knowing F p i w s old new in_views (inl e) = subst (λ (y : ℕ × Knows). F y.0 y.1) (λ k. (sym e k, sym (get_or-set_at p.views i s w fresh e in_views) k)) new
at_knowing F p i w s old new in_views (inr n) = subst (F s) (sym (get_or-set_other p.views i s w fresh n)) (old n)

pub all_knowing : (F : ℕ → Knows → Type 0) (p : PassState) (i : ℕ) (w : Knows) → AllSections F p → F i w → i < length p.views → AllSections F (knowing p i w)
all_knowing F p i w all new in_views s in_s = at_knowing F p i w s (λ _. all s (subst (λ k. s < k) (length-set p.views i w) in_s)) new in_views (cases_eq s i)

pub all_but_one : (F : ℕ → Knows → Type 0) (p : PassState) (i : ℕ) (w : Knows) → ((s : ℕ) → s < length p.views → s ≢ i → F s (known p s)) → F i w → i < length p.views → AllSections F (knowing p i w)
all_but_one F p i w all new in_views s in_s = at_knowing F p i w s (λ n. all s (subst (λ k. s < k) (length-set p.views i w) in_s) n) new in_views (cases_eq s i)

-- a later state of a part is one of the same section
pub later-part : (parts : PartsState) (s : ℕ) (x y : PartState) → IsPartOf parts s x → Follows y x → IsPartOf parts s y
later-part parts s x y is after = record { job = after.job ∙ is.job; size = after.size ∙ is.size; section = after.section ∙ is.section; sections = after.sections ∙ is.sections }

-- a pass that knows more of one section
pub still_pass : (parts : PartsState) (p : PassState) (i : ℕ) (w : Knows) → IsPassOfParts parts p → i < length parts.queues → w.opened ≡ true → Follows w.seen (known p i).seen → IsPassOfParts parts (knowing p i w)
still_pass parts p i w is in_parts opened after =
    let in_views : i < length p.views = (let h = is.count in omega arith) in
    let v = is.each i in_views in record {
      queues = is.queues;
      count = length-set p.views i w ∙ is.count;
      each = all_knowing (IsViewOf parts) p i w is.each (record { opened = opened; part = later-part parts i (known p i).seen w.seen v.part after }) in_views;
    }

-- what the first pass knows of a section that was opened just now
pub record IsNewView (j : JobShape) (m s k : ℕ) (v : Knows) : Type 0 where
  pub opened : v.opened ≡ true
  pub free : v.holds ≡ false
  pub mine : v.mine ≡ []
  pub due : v.due ≡ []
  pub opening : IsOpening j m s k v.seen

pub begins_pass : (parts : PartsState) (p : PassState) (k : ℕ) → p.queues ≡ parts.queues → length parts.queues ≡ k → length p.views ≡ k → ((s : ℕ) → s < k → IsNewView parts.job parts.size s k (known p s)) → IsPassOfParts parts p × HoldsNone p × KnowsNothing p
begins_pass parts p k queues count count' each =
    let at : (s : ℕ) → s < length p.views → IsNewView parts.job parts.size s k (known p s) = λ s h. each s (subst (λ n. s < n) count' h) in (
      record {
        queues = queues;
        count = count' ∙ sym count;
        each = λ s h. record { opened = (at s h).opened; part = let o = (at s h).opening in record { job = o.job; size = o.size; section = o.section; sections = o.sections ∙ sym count } };
      },
      (λ s h. (at s h).free),
      (λ s h. let o = (at s h).opening in record { mine = (at s h).mine; due = (at s h).due; handed = o.handed; returned = o.returned; gave_up = o.gave_up }),
    )

-- of a newcomer all that is asked of a pass holds
pub new_pass : (parts : PartsState) (p : PassState) → IsPassOfParts parts p × HoldsNone p × KnowsNothing p → IsPassOfParts parts (newcomers p) × HoldsNone (newcomers p) × KnowsNothing (newcomers p)
new_pass parts p h =
    let len : length (map newcomer p.views) ≡ length p.views = length-map p.views newcomer in
    let is : (s : ℕ) → s < length (map newcomer p.views) → (s < length p.views) × (known (newcomers p) s ≡ newcomer (known p s)) = λ s in_s. let in_views = subst (λ n. s < n) len in_s in (in_views, get_or-map newcomer p.views s fresh fresh in_views) in
    let all : (F : ℕ → Knows → Type 0) → ((s : ℕ) → s < length p.views → F s (newcomer (known p s))) → AllSections F (newcomers p) = λ F f s in_s. subst (F s) (sym (is s in_s).1) (f s (is s in_s).0) in (
      record {
        queues = h.0.queues;
        count = len ∙ h.0.count;
        each = all (IsViewOf parts) (λ s i. record { opened = refl; part = (h.0.each s i).part });
      },
      all (λ _ v. v.holds ≡ false) (λ s i. refl),
      all (λ _ v. IsUnused v) (λ s i. let u = h.2 s i in record { mine = refl; due = refl; handed = u.handed; returned = u.returned; gave_up = u.gave_up }),
    )

-- the pass of one section was replaced by one that knows as much
pub unchanged : (ps : List Own) (i : ℕ) (p q : Own) → p ≡ get_or ps i p → q.table_id ≡ p.table_id → view q ≡ view p → state_of (set ps i q) ≡ state_of ps
unchanged ps i p q is same knows =
    let names = map-set_same pass_name ps i q p (same ∙ ap pass_name is) in
    let views = map-set_same pass_view ps i q p (knows ∙ ap pass_view is) in
    λ k. record { queues = names k; views = views k }

pub snoc_image : {A B : Type 0} (f : A → B) (xs : List A) (ys : List B) (i : ℕ) (x : A) → map f xs ≡ take i ys → i < length ys → f x ≡ get_or ys i (f x) → map f (xs ++ x ∷ []) ≡ take (i + 1) ys
snoc_image f xs ys i x e in_ys is = map-append f xs (x ∷ []) ∙ ((λ k. e k ++ is k ∷ []) ∙ sym (take_more ys i (f x) in_ys))

pub snoc_both : {A B C : Type 0} (f : A → C) (h : B → C) (xs : List A) (ys : List B) (x : A) (y : B) → map f xs ≡ map h ys → f x ≡ h y → map f (xs ++ x ∷ []) ≡ map h (ys ++ y ∷ [])
snoc_both f h xs ys x y e is = map-append f xs (x ∷ []) ∙ ((λ k. e k ++ is k ∷ []) ∙ sym (map-append h ys (y ∷ [])))

sub_same : (a b : ℕ) → a ≡ b → a - b ≡ 0
sub_same a b e = omega arith

pub snoc_views : (F : ℕ → Knows → Type 0) (ps : List Own) (p : Own) (n : ℕ) → length ps ≡ n → ((s : ℕ) → s < n → F s (known (state_of ps) s)) → F n (view p) → (s : ℕ) → s < n + 1 → F s (known (state_of (ps ++ p ∷ [])) s)
snoc_views F ps p n len old new s in_s = pick (cases_eq s n)
  where
    vs : map pass_view (ps ++ p ∷ []) ≡ map pass_view ps ++ view p ∷ []
    vs = map-append pass_view ps (p ∷ [])

    len' : length (map pass_view ps) ≡ n
    len' = length-map ps pass_view ∙ len

    pick : ((s ≡ n) ⊎ (s ≢ n)) → F s (known (state_of (ps ++ p ∷ [])) s)
    pick (inl e) =
        let at : get_or (map pass_view (ps ++ p ∷ [])) s fresh ≡ view p = ap (λ l. get_or l s fresh) vs ∙ get_or-append_right (map pass_view ps) (view p ∷ []) n s fresh len' (omega arith) ∙ ap (λ k. get_or (view p ∷ []) k fresh) (sub_same s n e) in
        subst (λ (y : ℕ × Knows). F y.0 y.1) (λ k. (sym e k, sym at k)) new
    pick (inr ne) =
        let in_n : s < n = omega arith in
        let at : get_or (map pass_view (ps ++ p ∷ [])) s fresh ≡ get_or (map pass_view ps) s fresh = ap (λ l. get_or l s fresh) vs ∙ get_or_append_left (map pass_view ps) (view p ∷ []) fresh s (subst (λ k. s < k) (sym len') in_n) in
        subst (F s) (sym at) (old s in_n)

-- a turn of the loop that makes another pass: the pass of section i is q now, and r is new
pub record IsTwinned (ps qs : List Own) (P : PassState) (i : ℕ) : Type 0 where
  pub same : state_of ps ≡ P
  pub rest : All IsAtRest ps
  pub names : map pass_name qs ≡ take i P.queues
  pub views : map pass_view qs ≡ take i (map newcomer P.views)
  pub new_rest : All IsAtRest qs

pub twin_step : (ps qs : List Own) (P : PassState) (i : ℕ) (p q r : Own) → IsTwinned ps qs P i → i < length ps → p ≡ get_or ps i p → q.table_id ≡ p.table_id → q.me.1 ≡ p.me.1 → view q ≡ view p → r.table_id ≡ p.table_id → r.me.1 ≡ [] → view r ≡ newcomer (view p)
    → IsTwinned (set ps i q) (qs ++ r ∷ []) P (i + 1)
twin_step ps qs P i p q r t in_ps is name slots knows new_name new_slots new_knows =
    let in_queues : i < length P.queues = subst (λ l. i < l) (sym (length-map ps pass_name) ∙ ap (λ x. length x.queues) t.same) in_ps in
    let in_views : i < length P.views = subst (λ l. i < l) (sym (length-map ps pass_view) ∙ ap (λ x. length x.views) t.same) in_ps in
    let in_news : i < length (map newcomer P.views) = subst (λ l. i < l) (sym (length-map P.views newcomer)) in_views in
    let q_rest : q.me.1 ≡ [] = slots ∙ each_at IsAtRest ps i p t.rest in_ps is in
    let p_name : pass_name p ≡ get_or P.queues i (pass_name r) = ap pass_name is ∙ (sym (get_or-map pass_name ps i p (pass_name r) in_ps) ∙ ap (λ x. get_or x.queues i (pass_name r)) t.same) in
    let p_view : view p ≡ get_or P.views i fresh = sym (known_at ps i p in_ps is) ∙ ap (λ x. known x i) t.same in
    let r_view : view r ≡ get_or (map newcomer P.views) i (view r) = new_knows ∙ (ap newcomer p_view ∙ sym (get_or-map newcomer P.views i fresh (view r) in_views)) in record {
      same = unchanged ps i p q is name knows ∙ t.same;
      rest = All-set IsAtRest ps i q q_rest t.rest;
      names = snoc_image pass_name qs P.queues i r t.names in_queues (new_name ∙ p_name);
      views = snoc_image pass_view qs (map newcomer P.views) i r t.views in_news r_view;
      new_rest = All-push IsAtRest qs r t.new_rest new_slots;
    }

pub twin_end : (ps qs : List Own) (P : PassState) (i : ℕ) → IsTwinned ps qs P i → length ps ≤ i → state_of qs ≡ newcomers P
twin_end ps qs P i t done =
    let in_queues : length P.queues ≤ i = subst (λ l. l ≤ i) (sym (length-map ps pass_name) ∙ ap (λ x. length x.queues) t.same) done in
    let in_views : length (map newcomer P.views) ≤ i = subst (λ l. l ≤ i) (sym (length-map ps pass_view) ∙ (ap (λ x. length x.views) t.same ∙ sym (length-map P.views newcomer))) done in
    let a = t.names ∙ take_all i P.queues in_queues in
    let b = t.views ∙ take_all i (map newcomer P.views) in_views in
    λ k. record { queues = a k; views = b k }

-- a turn of the loop that opens the queues
pub record IsOpened {Q : Type 0} (name : Q → TableId) (j : JobShape) (m k : ℕ) (qs : List Q) (ps : List Own) (n : ℕ) : Type 0 where
  pub names : map pass_name ps ≡ map name qs
  pub count : length qs ≡ n
  pub rest : All IsAtRest ps
  pub views : (s : ℕ) → s < n → IsNewView j m s k (known (state_of ps) s)

pub opened_none : {Q : Type 0} (name : Q → TableId) (j : JobShape) (m k : ℕ) → IsOpened name j m k [] [] 0
opened_none name j m k = record { names = refl; count = refl; rest = All-nil IsAtRest; views = λ s in_s. absurd (omega (arith, in_s)) }

pub opened_count : {Q : Type 0} (name : Q → TableId) (j : JobShape) (m k : ℕ) (qs : List Q) (ps : List Own) (n : ℕ) → IsOpened name j m k qs ps n → length ps ≡ n
opened_count name j m k qs ps n o = sym (length-map ps pass_name) ∙ (ap length o.names ∙ (length-map qs name ∙ o.count))

pub opened_step : {Q : Type 0} (name : Q → TableId) (j : JobShape) (m k : ℕ) (qs : List Q) (ps : List Own) (n : ℕ) (q : Q) (p : Own) (x : PartState) → IsOpened name j m k qs ps n → p.table_id ≡ name q → p.me.1 ≡ [] → view p ≡ knows false x [] [] → IsOpening j m n k x
    → IsOpened name j m k (qs ++ q ∷ []) (ps ++ p ∷ []) (n + 1)
opened_step name j m k qs ps n q p x o named slots knew opening =
    let new : IsNewView j m n k (view p) = subst (IsNewView j m n k) (sym knew) (record { opened = refl; free = refl; mine = refl; due = refl; opening = opening }) in record {
      names = snoc_both pass_name name ps qs p q o.names named;
      count = length-append qs (q ∷ []) ∙ ap (λ l. l + 1) o.count;
      rest = All-push IsAtRest ps p o.rest slots;
      views = snoc_views (λ s v. IsNewView j m s k v) ps p n (opened_count name j m k qs ps n o) o.views new;
    }

-- The first of a list of faults.
use Rattle.std.proofs.Common.{◌≡◌, inl, inr, Option, None, List, ◌∷◌, ap, ◌∙◌}
use Rattle.ssb_bind.specs.declared.fault.BindFault.{BindFault}
use Rattle.ssb_bind.specs.Faults.{first_of, Says}

pub hit : (o : Option BindFault) (os : List (Option BindFault)) (f : BindFault) → Says o f → Says (first_of (o ∷ os)) f
hit o os f (inl m) = inl m
hit o os f (inr e) = inr (ap (λ x. first_of (x ∷ os)) e)

pub skip : (o : Option BindFault) (os : List (Option BindFault)) (f : BindFault) → o ≡ None → Says (first_of os) f → Says (first_of (o ∷ os)) f
skip o os f e (inl m) = inl m
skip o os f e (inr h) = inr (ap (λ x. first_of (x ∷ os)) e ∙ h)

pub done : (o : Option BindFault) (os : List (Option BindFault)) → o ≡ None → first_of os ≡ None → first_of (o ∷ os) ≡ None
done o os e h = ap (λ x. first_of (x ∷ os)) e ∙ h

-- What one read after another takes from a source.
use Rattle.std.proofs.Common.{◌++◌, ℕ, List, [], Option, Some, None, refl, sym, ap, ◌∙◌, append_assoc}
use Rattle.std.specs.Io.KnownBytes.{Consumes}

pub Consumes-nil : (a : Option (List ℕ)) → Consumes a a []
Consumes-nil None = tt
Consumes-nil (Some x) = refl

pub Consumes-add : (a b c : Option (List ℕ)) (xs ys : List ℕ) → Consumes a b xs → Consumes b c ys → Consumes a c (xs ++ ys)
Consumes-add None b c xs ys p q = tt
Consumes-add (Some x) None c xs ys p q = absurd p
Consumes-add (Some x) (Some y) None xs ys p q = absurd q
Consumes-add (Some x) (Some y) (Some z) xs ys p q = p ∙ ap (λ l. xs ++ l) q ∙ sym (append_assoc xs ys z)

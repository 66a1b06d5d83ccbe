-- So many, one after the other.
use Rattle.std.proofs.Common.{◌≡◌, ℕ, zero, suc, ◌<◌, ◌^◌, List, [], ◌∷◌, ◌++◌, length, Ok, refl, sym, ap, subst, ◌∙◌, append_assoc, arith}
use Rattle.std.specs.List.{flat_map, AllByRecursion}
use Rattle.std.specs.Int.{w64}
use Rattle.std.proofs.lemmas.List.Concat.{flat_map-cons}
use Rattle.sms_saved.specs.Spelling.{eight, counted}
use Rattle.sms_saved.specs.Reading.Fields.{◌>>=◌, Read, number_at, items_at, counted_at}
use Rattle.sms_saved.proofs.TakenFields.{IsBytes, bind_ok, ok_is, Takes, Takes-then, Reads}
use Rattle.sms_saved.proofs.Numbers.{reads_eight}

pub items_take : {A : Type 0} (one : List ℕ → Read A) (text : A → List ℕ) (P : A → Type 0) → Reads one text P → (n : ℕ) (bytes : List ℕ) (x : List A × List ℕ) → IsBytes bytes → items_at one n bytes ≡ Ok x → Takes bytes (flat_map text x.0) x.1 × (length x.0 ≡ n) × AllByRecursion P x.0
unfolding items_at
items_take {A} one text P r zero bytes x fits e =
    let made : List A × List ℕ = ([], bytes) in
    subst (λ (y : List A × List ℕ). Takes bytes (flat_map text y.0) y.1 × (length y.0 ≡ 0) × AllByRecursion P y.0) (ok_is made x e) (record { parts = refl; rest_fits = fits }, refl, tt)
items_take {A} one text P r (suc n) bytes x fits e =
    let a = bind_ok (one bytes) (λ first. items_at one n first.1 >>= λ others. Ok (first.0 ∷ others.0, others.1)) x e in
    let b = bind_ok (items_at one n a.0.1) (λ others. Ok (a.0.0 ∷ others.0, others.1)) x a.2 in
    let first = r.takes bytes a.0 fits a.1 in
    let second = items_take one text P r n a.0.1 b.0 first.0.rest_fits b.1 in
    let both = Takes-then bytes (text a.0.0) a.0.1 (flat_map text b.0.0) b.0.1 first.0 second.0 in
    let made : List A × List ℕ = (a.0.0 ∷ b.0.0, b.0.1) in
    subst (λ (y : List A × List ℕ). Takes bytes (flat_map text y.0) y.1 × (length y.0 ≡ suc n) × AllByRecursion P y.0) (ok_is made x b.2) (rw flat_map-cons both, ap suc second.1, (first.1, second.2))

pub items_again : {A : Type 0} (one : List ℕ → Read A) (text : A → List ℕ) (P : A → Type 0) → Reads one text P → (xs : List A) (rest : List ℕ) → AllByRecursion P xs → items_at one (length xs) (flat_map text xs ++ rest) ≡ Ok (xs, rest)
unfolding items_at
items_again one text P r [] rest fits = refl
items_again one text P r (x ∷ xs) rest fits =
    let regrouped : flat_map text (x ∷ xs) ++ rest ≡ text x ++ (flat_map text xs ++ rest) = ap (λ (t : List ℕ). t ++ rest) (flat_map-cons text x xs) ∙ append_assoc (text x) (flat_map text xs) rest in
    ap (items_at one (suc (length xs))) regrouped ∙ rw (r.again x (flat_map text xs ++ rest) fits.0, items_again one text P r xs rest fits.1) refl

-- as many as a number before them says

counted_takes : {A : Type 0} (one : List ℕ → Read A) (text : A → List ℕ) (P : A → Type 0) → Reads one text P → (bytes : List ℕ) (x : List A × List ℕ) → IsBytes bytes → counted_at one bytes ≡ Ok x → Takes bytes (counted text x.0) x.1 × ((length x.0 < 2 ^ 64) × AllByRecursion P x.0)
unfolding counted_at
counted_takes one text P r bytes x fits e =
    let a = bind_ok (number_at w64 bytes) (λ n. items_at one n.0 n.1) x e in
    let first = reads_eight.takes bytes a.0 fits a.1 in
    let second = items_take one text P r a.0.0 a.0.1 x first.0.rest_fits a.2 in
    let both = Takes-then bytes (eight a.0.0) a.0.1 (flat_map text x.0) x.1 first.0 second.0 in
    (subst (λ (k : ℕ). Takes bytes (eight k ++ flat_map text x.0) x.1) (sym second.1) both, (omega (arith, second.1, first.1), second.2))

counted_again : {A : Type 0} (one : List ℕ → Read A) (text : A → List ℕ) (P : A → Type 0) → Reads one text P → (xs : List A) (rest : List ℕ) → (length xs < 2 ^ 64) × AllByRecursion P xs → counted_at one (counted text xs ++ rest) ≡ Ok (xs, rest)
unfolding counted_at
counted_again one text P r xs rest fits =
    ap (counted_at one) (append_assoc (eight (length xs)) (flat_map text xs) rest)
    ∙ rw (reads_eight.again (length xs) (flat_map text xs ++ rest) fits.0) (items_again one text P r xs rest fits.1)

pub reads_counted : {A : Type 0} (one : List ℕ → Read A) (text : A → List ℕ) (P : A → Type 0) → Reads one text P → Reads (counted_at one) (counted text) (λ xs. (length xs < 2 ^ 64) × AllByRecursion P xs)
reads_counted one text P r = record { takes = counted_takes one text P r; again = counted_again one text P r }

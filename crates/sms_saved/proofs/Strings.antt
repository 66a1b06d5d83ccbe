-- Strings, values behind a flag, and flags.
use Rattle.std.proofs.Common.{◌≡◌, ℕ, zero, suc, ◌<◌, ◌≤◌, Bool, true, false, cond, ltb, List, [], ◌∷◌, ◌++◌, length, take, drop, Option, Some, None, Ok, refl, sym, ap, subst, ◌∙◌, append_assoc, arith}
use Rattle.std.specs.Prelude.{IfSome}
use Rattle.std.proofs.lemmas.Bool.{ltb-false, le-ltb}
use Rattle.std.proofs.lemmas.List.{take_at, drop_at, take-append-drop, length-append, length-take}
use Rattle.sms_saved.specs.declared.fault.StateFault.TheVariants.{Short}
use Rattle.sms_saved.specs.Spelling.{string, optional, flag}
use Rattle.sms_saved.specs.Reading.Fields.{Read, stops, string_at, optional_at, flag_at}
use Rattle.sms_saved.proofs.TakenFields.{IsBytes, IsBytes-drop, IsBytes-rest, bind_ok, guard_ok, ok_is, Takes, Takes-then, Reads}

string_takes : (number : List ℕ → Read ℕ) (text : ℕ → List ℕ) (limit : ℕ) → Reads number text (λ n. n < limit) → (bytes : List ℕ) (x : List ℕ × List ℕ) → IsBytes bytes → string_at number bytes ≡ Ok x → Takes bytes (string text x.0) x.1 × (length x.0 < limit)
unfolding string_at
string_takes number text limit r bytes x fits e =
    let b = bind_ok (number bytes) (λ n. cond (ltb (length n.1) n.0) (stops bytes Short) (Ok (take n.0 n.1, drop n.0 n.1))) x e in
    let n = b.0 in
    let t = r.takes bytes n fits b.1 in
    let g = guard_ok (ltb (length n.1) n.0) (record { left = length bytes; why = Short }) (Ok (take n.0 n.1, drop n.0 n.1)) x b.2 in
    let long : n.0 ≤ length n.1 = ltb-false _ _ g.0 in
    let len : length (take n.0 n.1) ≡ n.0 = omega (arith, length-take n.0 n.1) in
    let second : Takes n.1 (take n.0 n.1) (drop n.0 n.1) = record { parts = sym (take-append-drop n.0 n.1); rest_fits = IsBytes-drop n.0 n.1 t.0.rest_fits } in
    let both = Takes-then bytes (text n.0) n.1 (take n.0 n.1) (drop n.0 n.1) t.0 second in
    let whole : Takes bytes (string text (take n.0 n.1)) (drop n.0 n.1) = subst (λ (k : ℕ). Takes bytes (text k ++ take n.0 n.1) (drop n.0 n.1)) (sym len) both in
    let made : List ℕ × List ℕ = (take n.0 n.1, drop n.0 n.1) in
    subst (λ (p : List ℕ × List ℕ). Takes bytes (string text p.0) p.1 × (length p.0 < limit)) (ok_is made x g.1) (whole, omega (arith, t.1))

string_again : (number : List ℕ → Read ℕ) (text : ℕ → List ℕ) (limit : ℕ) → Reads number text (λ n. n < limit) → (octets rest : List ℕ) → length octets < limit → string_at number (string text octets ++ rest) ≡ Ok (octets, rest)
unfolding string_at
string_again number text limit r octets rest lt =
    let long : ltb (length (octets ++ rest)) (length octets) ≡ false = le-ltb _ _ (omega (arith, length-append octets rest)) in
    let regrouped : string text octets ++ rest ≡ text (length octets) ++ (octets ++ rest) = append_assoc (text (length octets)) octets rest in
    ap (string_at number) regrouped ∙ rw (r.again (length octets) (octets ++ rest) lt, long, take_at octets rest (length octets) refl, drop_at octets rest (length octets) refl) refl

pub reads_string : (number : List ℕ → Read ℕ) (text : ℕ → List ℕ) (limit : ℕ) → Reads number text (λ n. n < limit) → Reads (string_at number) (string text) (λ octets. length octets < limit)
reads_string number text limit r = record { takes = string_takes number text limit r; again = string_again number text limit r }

-- ---- a value behind a flag

optional_takes : {A : Type 0} (one : List ℕ → Read A) (text : A → List ℕ) (P : A → Type 0) → Reads one text P → (bytes : List ℕ) (x : Option A × List ℕ) → IsBytes bytes → optional_at one bytes ≡ Ok x → Takes bytes (optional text x.0) x.1 × IfSome x.0 P
unfolding optional_at
optional_takes one text P r [] x fits e = absurd cc
optional_takes {A} one text P r (zero ∷ bytes) x fits e =
    let made : Option A × List ℕ = (None, bytes) in
    subst (λ (y : Option A × List ℕ). Takes (0 ∷ bytes) (optional text y.0) y.1 × IfSome y.0 P) (ok_is made x e) (record { parts = refl; rest_fits = IsBytes-rest 0 bytes fits }, tt)
optional_takes {A} one text P r (suc zero ∷ bytes) x fits e =
    let b = bind_ok (one bytes) (λ n. Ok (Some n.0, n.1)) x e in
    let t = r.takes bytes b.0 (IsBytes-rest 1 bytes fits) b.1 in
    let made : Option A × List ℕ = (Some b.0.0, b.0.1) in
    subst (λ (y : Option A × List ℕ). Takes (1 ∷ bytes) (optional text y.0) y.1 × IfSome y.0 P) (ok_is made x b.2) (record { parts = ap (λ (w : List ℕ). 1 ∷ w) t.0.parts; rest_fits = t.0.rest_fits }, t.1)
optional_takes one text P r (suc (suc b) ∷ bytes) x fits e = absurd cc

optional_again : {A : Type 0} (one : List ℕ → Read A) (text : A → List ℕ) (P : A → Type 0) → Reads one text P → (o : Option A) (rest : List ℕ) → IfSome o P → optional_at one (optional text o ++ rest) ≡ Ok (o, rest)
unfolding optional_at
optional_again one text P r None rest h = refl
optional_again one text P r (Some x) rest h = rw (r.again x rest h) refl

pub reads_optional : {A : Type 0} (one : List ℕ → Read A) (text : A → List ℕ) (P : A → Type 0) → Reads one text P → Reads (optional_at one) (optional text) (λ o. IfSome o P)
reads_optional one text P r = record { takes = optional_takes one text P r; again = optional_again one text P r }

-- ---- flags

flag_takes : (bytes : List ℕ) (x : Bool × List ℕ) → IsBytes bytes → flag_at bytes ≡ Ok x → Takes bytes (flag x.0) x.1 × Unit {0}
unfolding flag_at
flag_takes [] x fits e = absurd cc
flag_takes (zero ∷ bytes) x fits e =
    subst (λ (y : Bool × List ℕ). Takes (0 ∷ bytes) (flag y.0) y.1 × Unit {0}) (ok_is (false, bytes) x e) (record { parts = refl; rest_fits = IsBytes-rest 0 bytes fits }, tt)
flag_takes (suc zero ∷ bytes) x fits e =
    subst (λ (y : Bool × List ℕ). Takes (1 ∷ bytes) (flag y.0) y.1 × Unit {0}) (ok_is (true, bytes) x e) (record { parts = refl; rest_fits = IsBytes-rest 1 bytes fits }, tt)
flag_takes (suc (suc b) ∷ bytes) x fits e = absurd cc

flag_again : (b : Bool) (rest : List ℕ) → Unit {0} → flag_at (flag b ++ rest) ≡ Ok (b, rest)
unfolding flag_at
flag_again false rest h = refl
flag_again true rest h = refl

pub reads_flag : Reads flag_at flag (λ b. Unit {0})
reads_flag = record { takes = flag_takes; again = flag_again }

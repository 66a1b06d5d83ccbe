-- What it means that a field that is read is the field that was written, and that what was written is read again.
use Rattle.std.proofs.Common.{◌≡◌, ℕ, suc, ◌+◌, ◌<◌, Bool, true, false, cond, List, ◌∷◌, ◌++◌, length, get_or, take, drop, Result, Ok, Err, refl, sym, ap, subst, ◌∙◌, append_assoc, arith, inl, inr}
use Rattle.std.proofs.lemmas.Bool.{cases_lt}
use Rattle.std.proofs.lemmas.List.{length-take, get_or-drop, get_or-take, get_or_past}
use Rattle.sms_saved.specs.declared.fault.Halt.{Halt}
use Rattle.sms_saved.specs.declared.fault.StateFault.{StateFault}
use Rattle.sms_saved.specs.Reading.Fields.{◌>>=◌, Read, stops, tested_at}

abbrev pub IsBytes : List ℕ → Type 0
IsBytes bytes = (i : ℕ) → get_or bytes i 0 < 256

pub IsBytes-drop : (n : ℕ) (bytes : List ℕ) → IsBytes bytes → IsBytes (drop n bytes)
IsBytes-drop n bytes h i = rw get_or-drop (h (n + i))

pub IsBytes-take : (n : ℕ) (bytes : List ℕ) → IsBytes bytes → IsBytes (take n bytes)
IsBytes-take n bytes h i =
    elim (cases_lt i n) [
      | inl lt ↦ rw (get_or-take n bytes i 0 lt) (h i)
      | inr le ↦ rw (get_or_past (take n bytes) i 0 (omega (arith, length-take n bytes))) (omega arith)
    ]

pub IsBytes-rest : (b : ℕ) (bytes : List ℕ) → IsBytes (b ∷ bytes) → IsBytes bytes
IsBytes-rest b bytes h i = h (suc i)

-- the value of a step that did not fail
pub bind_ok : {A B : Type 0} (r : Result A Halt) (f : A → Result B Halt) (y : B) → (r >>= f) ≡ Ok y → (x : A) × (r ≡ Ok x) × (f x ≡ Ok y)
bind_ok (Ok x) f y e = (x, refl, e)
bind_ok (Err d) f y e = absurd cc

-- a test that did not fail
pub guard_ok : {A : Type 0} (b : Bool) (d : Halt) (r : Result A Halt) (y : A) → cond b (Err d) r ≡ Ok y → (b ≡ false) × (r ≡ Ok y)
guard_ok true d r y e = absurd cc
guard_ok false d r y e = (refl, e)

-- a test that held
pub guard_held : {A : Type 0} (b : Bool) (d : Halt) (r : Result A Halt) (y : A) → cond b r (Err d) ≡ Ok y → (b ≡ true) × (r ≡ Ok y)
guard_held true d r y e = (refl, e)
guard_held false d r y e = absurd cc

abbrev pub done : {A : Type 0} → A → Result A Halt
done x = Ok x

pub ok_is : {A : Type 0} (x y : A) → done x ≡ done y → x ≡ y
ok_is x y e = cc

-- what a reader took from the front
pub record Takes (bytes text rest : List ℕ) : Type 0 where
  pub parts : bytes ≡ text ++ rest
  pub rest_fits : IsBytes rest

pub Takes-then : (a x b y c : List ℕ) → Takes a x b → Takes b y c → Takes a (x ++ y) c
Takes-then a x b y c p q = record { parts = p.parts ∙ ap (λ (t : List ℕ). x ++ t) q.parts ∙ sym (append_assoc x y c); rest_fits = q.rest_fits }

-- What is read is spelled so and fits, and what fits and is spelled so is read.
pub record Reads {A : Type 0} (one : List ℕ → Read A) (text : A → List ℕ) (P : A → Type 0) : Type 0 where
  pub takes : (bytes : List ℕ) (x : A × List ℕ) → IsBytes bytes → one bytes ≡ Ok x → Takes bytes (text x.0) x.1 × P x.0
  pub again : (x : A) (rest : List ℕ) → P x → one (text x ++ rest) ≡ Ok (x, rest)

-- the same of what fits exactly where that does
pub reads_as : {A : Type 0} (one : List ℕ → Read A) (text : A → List ℕ) (P Q : A → Type 0) → ((x : A) → P x → Q x) → ((x : A) → Q x → P x) → Reads one text P → Reads one text Q
reads_as one text P Q to back r = record {
  takes = λ bytes x fits e. let t = r.takes bytes x fits e in (t.0, to x.0 t.1);
  again = λ x rest q. r.again x rest (back x q);
}

-- a field that has to pass a test
pub reads_tested : {A : Type 0} (test : A → Bool) (why : StateFault) (one : List ℕ → Read A) (text : A → List ℕ) (P : A → Type 0) → Reads one text P → Reads (tested_at test why one) text (λ x. P x × (test x ≡ true))
unfolding tested_at
reads_tested {A} test why one text P r = record {
  takes = λ bytes x fits e.
      let a = bind_ok (one bytes) (λ y. cond (test y.0) (Ok y) (stops bytes why)) x e in
      let g = guard_held (test a.0.0) (record { left = length bytes; why = why }) (Ok a.0) x a.2 in
      let t = r.takes bytes a.0 fits a.1 in
      subst (λ (y : A × List ℕ). Takes bytes (text y.0) y.1 × (P y.0 × (test y.0 ≡ true))) (ok_is a.0 x g.1) (t.0, (t.1, g.0));
  again = λ x rest fits. rw (r.again x rest fits.0, fits.1) refl;
}

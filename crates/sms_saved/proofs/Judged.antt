-- Lists of which each item is judged by those before it, and the loop that reads one.
use Rattle.std.proofs.Common.{◌≡◌, ℕ, zero, suc, ◌^◌, ◌<◌, ◌≤◌, false, cond, ltb, List, [], ◌∷◌, ◌++◌, length, Option, Some, None, Result, Ok, refl, sym, ap, subst, ◌∙◌, append_assoc, arith}
use Rattle.std.specs.List.{flat_map, AllByRecursion}
use Rattle.std.specs.Int.{w64}
use Rattle.std.proofs.lemmas.Bool.{ltb-false, le-ltb}
use Rattle.std.proofs.lemmas.List.{append-nil}
use Rattle.std.proofs.lemmas.List.Concat.{flat_map-cons}
use Rattle.sms_saved.specs.declared.fault.Halt.{Halt}
use Rattle.sms_saved.specs.declared.fault.StateFault.{StateFault}
use Rattle.sms_saved.specs.declared.fault.StateFault.TheVariants.{TooMany}
use Rattle.sms_saved.specs.Spelling.{eight, counted}
use Rattle.sms_saved.specs.Reading.Fields.{Read, stops, number_at}
use Rattle.sms_saved.specs.Reading.Lists.{unless, judged_at, few_judged_at}
use Rattle.sms_saved.proofs.TakenFields.{IsBytes, bind_ok, guard_ok, ok_is, Takes, Takes-then, Reads}
use Rattle.sms_saved.proofs.Numbers.{reads_eight}

-- Each passes, after those before it, of which the first list has the first.
abbrev pub ArePassed : {A : Type 0} → (List A → A → Option StateFault) → List A → List A → Type 0
ArePassed judge before [] = Unit {0}
ArePassed judge before (x ∷ xs) = (judge before x ≡ None) × ArePassed judge (before ++ x ∷ []) xs

pub unless_ok : {A : Type 0} (bytes : List ℕ) (o : Option StateFault) (r : Result A Halt) (y : A) → unless bytes o r ≡ Ok y → (o ≡ None) × (r ≡ Ok y)
unless_ok bytes None r y e = (refl, e)
unless_ok bytes (Some why) r y e = absurd cc

pub record JudgedTakes {A : Type 0} (judge : List A → A → Option StateFault) (text : A → List ℕ) (P : A → Type 0) (before : List A) (n : ℕ) (bytes : List ℕ) (x : List A × List ℕ) : Type 0 where
  pub xs : List A
  pub is_after : x.0 ≡ before ++ xs
  pub takes : Takes bytes (flat_map text xs) x.1
  pub count : length xs ≡ n
  pub fits : AllByRecursion P xs
  pub passed : ArePassed judge before xs

judged_take : {A : Type 0} (judge : List A → A → Option StateFault) (one : List ℕ → Read A) (text : A → List ℕ) (P : A → Type 0) → Reads one text P → (n : ℕ) (before : List A) (bytes : List ℕ) (x : List A × List ℕ) → IsBytes bytes
    → judged_at judge one before n bytes ≡ Ok x → JudgedTakes judge text P before n bytes x
unfolding judged_at
judged_take {A} judge one text P r zero before bytes x fits e =
    let made : List A × List ℕ = (before, bytes) in
    subst (λ (y : List A × List ℕ). JudgedTakes judge text P before 0 bytes y) (ok_is made x e) (record { xs = []; is_after = sym (append-nil before); takes = record { parts = refl; rest_fits = fits }; count = refl; fits = tt; passed = tt })
judged_take {A} judge one text P r (suc n) before bytes x fits e =
    let a = bind_ok (one bytes) (λ y. unless bytes (judge before y.0) (judged_at judge one (before ++ y.0 ∷ []) n y.1)) x e in
    let first = r.takes bytes a.0 fits a.1 in
    let g = unless_ok bytes (judge before a.0.0) (judged_at judge one (before ++ a.0.0 ∷ []) n a.0.1) x a.2 in
    let others = judged_take judge one text P r n (before ++ a.0.0 ∷ []) a.0.1 x first.0.rest_fits g.1 in
    let both = Takes-then bytes (text a.0.0) a.0.1 (flat_map text others.xs) x.1 first.0 others.takes in
    record {
      xs = a.0.0 ∷ others.xs;
      is_after = others.is_after ∙ append_assoc before (a.0.0 ∷ []) others.xs;
      takes = rw flat_map-cons both;
      count = ap suc others.count;
      fits = (first.1, others.fits);
      passed = (g.0, others.passed);
    }

judged_again : {A : Type 0} (judge : List A → A → Option StateFault) (one : List ℕ → Read A) (text : A → List ℕ) (P : A → Type 0) → Reads one text P → (xs before : List A) (rest : List ℕ) → AllByRecursion P xs → ArePassed judge before xs
    → judged_at judge one before (length xs) (flat_map text xs ++ rest) ≡ Ok (before ++ xs, rest)
unfolding judged_at
judged_again {A} judge one text P r [] before rest fits passed = ap (λ (f : List A). Ok (f, rest)) (sym (append-nil before))
judged_again {A} judge one text P r (x ∷ xs) before rest fits passed =
    let regrouped : flat_map text (x ∷ xs) ++ rest ≡ text x ++ (flat_map text xs ++ rest) = ap (λ (t : List ℕ). t ++ rest) (flat_map-cons text x xs) ∙ append_assoc (text x) (flat_map text xs) rest in
    ap (judged_at judge one before (suc (length xs))) regrouped
    ∙ rw (r.again x (flat_map text xs ++ rest) fits.0, passed.0) (judged_again judge one text P r xs (before ++ x ∷ []) rest fits.1 passed.1 ∙ ap (λ (f : List A). Ok (f, rest)) (append_assoc before (x ∷ []) xs))

-- at most so many, of which each passes
abbrev pub FewPassed : {A : Type 0} → ℕ → (List A → A → Option StateFault) → (A → Type 0) → List A → Type 0
FewPassed most judge P xs = (length xs ≤ most) × AllByRecursion P xs × ArePassed judge [] xs

few_takes : {A : Type 0} (most : ℕ) (judge : List A → A → Option StateFault) (one : List ℕ → Read A) (text : A → List ℕ) (P : A → Type 0) → Reads one text P → (bytes : List ℕ) (x : List A × List ℕ) → IsBytes bytes
    → few_judged_at most judge one bytes ≡ Ok x → Takes bytes (counted text x.0) x.1 × FewPassed most judge P x.0
unfolding few_judged_at
few_takes {A} most judge one text P r bytes x fits e =
    let a = bind_ok (number_at w64 bytes) (λ n. cond (ltb most n.0) (stops bytes TooMany) (judged_at judge one [] n.0 n.1)) x e in
    let first = reads_eight.takes bytes a.0 fits a.1 in
    let g = guard_ok (ltb most a.0.0) (record { left = length bytes; why = TooMany }) (judged_at judge one [] a.0.0 a.0.1) x a.2 in
    let few : a.0.0 ≤ most = ltb-false _ _ g.0 in
    let second = judged_take judge one text P r a.0.0 [] a.0.1 x first.0.rest_fits g.1 in
    let both = Takes-then bytes (eight a.0.0) a.0.1 (flat_map text second.xs) x.1 first.0 second.takes in
    let whole : Takes bytes (counted text second.xs) x.1 = subst (λ (k : ℕ). Takes bytes (eight k ++ flat_map text second.xs) x.1) (sym second.count) both in
    subst (λ (ys : List A). Takes bytes (counted text ys) x.1 × FewPassed most judge P ys) (sym second.is_after) (whole, (omega (arith, second.count), second.fits, second.passed))

few_again : {A : Type 0} (most : ℕ) → most < 2 ^ 64 → (judge : List A → A → Option StateFault) (one : List ℕ → Read A) (text : A → List ℕ) (P : A → Type 0) → Reads one text P → (xs : List A) (rest : List ℕ) → FewPassed most judge P xs
    → few_judged_at most judge one (counted text xs ++ rest) ≡ Ok (xs, rest)
unfolding few_judged_at
few_again most lt judge one text P r xs rest fits =
    let few : ltb most (length xs) ≡ false = le-ltb _ _ fits.0 in
    let regrouped : counted text xs ++ rest ≡ eight (length xs) ++ (flat_map text xs ++ rest) = append_assoc (eight (length xs)) (flat_map text xs) rest in
    ap (few_judged_at most judge one) regrouped ∙ rw (reads_eight.again (length xs) (flat_map text xs ++ rest) (omega (arith, fits.0)), few) (judged_again judge one text P r xs [] rest fits.1 fits.2)

pub reads_few : {A : Type 0} (most : ℕ) → most < 2 ^ 64 → (judge : List A → A → Option StateFault) (one : List ℕ → Read A) (text : A → List ℕ) (P : A → Type 0) → Reads one text P → Reads (few_judged_at most judge one) (counted text) (FewPassed most judge P)
reads_few most lt judge one text P r = record { takes = few_takes most judge one text P r; again = few_again most lt judge one text P r }

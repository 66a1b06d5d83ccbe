-- Reading one after the other, each judged by those before it, as a loop does.
use Rattle.std.proofs.Common.{◌≡◌, ℕ, suc, ◌-◌, ◌+◌, ◌≤◌, ◌<◌, List, [], ◌∷◌, ◌++◌, Option, Some, None, Result, Ok, Err, refl, sym, ap, subst, ◌∙◌, arith}
use Rattle.sms_saved.specs.declared.fault.Halt.{Halt}
use Rattle.sms_saved.specs.declared.fault.StateFault.{StateFault}
use Rattle.sms_saved.specs.declared.fault.Stop.{Stop}
use Rattle.sms_saved.specs.declared.fault.Stop.TheVariants as stops_at
use Rattle.sms_saved.specs.Reading.Fields.{Fails, Read}
use Rattle.sms_saved.specs.Reading.Lists.{unless, judged_at}

-- what is refused by a judge is refused, whatever would come else
pub fails_so : {A B : Type 0} (e : Stop) (bytes : List ℕ) (o : Option StateFault) (x : A) (r : Result B Halt) → Fails {Y = A} e (unless bytes o (Ok x)) → Fails e (unless bytes o r)
fails_so stops_at.Memory bytes o x r h = tt
fails_so (stops_at.At f) bytes None x r h = absurd cc
fails_so (stops_at.At f) bytes (Some why) x r h = cc

module _ {A : Type 0} (judge : List A → A → Option StateFault) (one : List ℕ → Read A) where
  step : (before : List A) (count i : ℕ) (bytes : List ℕ) (n : A) (after : List ℕ) → i < count → one bytes ≡ Ok (n, after)
      → judged_at judge one before (count - i) bytes ≡ unless bytes (judge before n) (judged_at judge one (before ++ n ∷ []) (count - (i + 1)) after)
  unfolding judged_at
  step before count i bytes n after lt h = let k : count - i ≡ suc (count - (i + 1)) = omega arith in rw (k, h) refl

  pub goes_on : (before : List A) (count i : ℕ) (bytes : List ℕ) (n : A) (after : List ℕ) (total : Read (List A)) → i < count → one bytes ≡ Ok (n, after)
      → judge before n ≡ None → judged_at judge one before (count - i) bytes ≡ total → judged_at judge one (before ++ n ∷ []) (count - (i + 1)) after ≡ total
  goes_on before count i bytes n after total lt h passed so_far =
      let others = judged_at judge one (before ++ n ∷ []) (count - (i + 1)) after in
      sym (step before count i bytes n after lt h ∙ ap (λ o. unless bytes o others) passed) ∙ so_far

  pub is_judged : (e : Stop) (x : ℕ) (before : List A) (count i : ℕ) (bytes : List ℕ) (n : A) (after : List ℕ) (total : Read (List A)) → i < count → one bytes ≡ Ok (n, after)
      → Fails {Y = ℕ} e (unless bytes (judge before n) (Ok x)) → judged_at judge one before (count - i) bytes ≡ total → Fails e total
  is_judged e x before count i bytes n after total lt h fails so_far =
      let others = judged_at judge one (before ++ n ∷ []) (count - (i + 1)) after in
      subst (Fails e) (sym (step before count i bytes n after lt h) ∙ so_far) (fails_so e bytes (judge before n) x others fails)

  pub ends : (e : Stop) (before : List A) (count i : ℕ) (bytes : List ℕ) (total : Read (List A)) → i < count → Fails e (one bytes) → judged_at judge one before (count - i) bytes ≡ total → Fails e total
  unfolding judged_at
  ends stops_at.Memory before count i bytes total lt h so_far = tt
  ends (stops_at.At f) before count i bytes total lt h so_far =
      let k : count - i ≡ suc (count - (i + 1)) = omega arith in
      let first : judged_at judge one before (count - i) bytes ≡ Err f = rw (k, h) refl in
      sym so_far ∙ first

  pub is_done : (before : List A) (count i : ℕ) (bytes : List ℕ) (total : Read (List A)) → count ≤ i → judged_at judge one before (count - i) bytes ≡ total → total ≡ Ok (before, bytes)
  unfolding judged_at
  is_done before count i bytes total le so_far =
      let k : count - i ≡ 0 = omega arith in
      let last : judged_at judge one before (count - i) bytes ≡ Ok (before, bytes) = rw k refl in
      sym so_far ∙ last

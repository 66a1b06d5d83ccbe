-- A line in place of another.
use Rattle.std.proofs.lemmas.Option.{slice_get_read}
use Rattle.std.proofs.Common.{length, get_or, ◌≡◌, ◌≢◌, ℕ, zero, suc, ◌<◌, ◌==◌, Bool, true, false, cond, nat_lt, List, [], ◌∷◌, ◌++◌, Some, Result, Ok, Err, OnErr, refl, sym, ap, ◌∙◌, subst, arith}
use Rattle.std.specs.List.{slice_get}
use Rattle.std.proofs.Math.ListN.{set}
use Rattle.std.proofs.lemmas.Bool.Decides.{nat_tests}
use Rattle.sms_field.specs.Address.Value.{AddressValue}
use Rattle.sms_message.specs.Address.{address_of}
use Rattle.sms_centre.specs.Inside.Kept.{free_at}
use Rattle.sms_centre.specs.Centre.State.{Acceptance, Line}
use Rattle.sms_message.specs.Changed.{changed}
use Rattle.sms_centre.specs.Centre.Held.{unended}
use Rattle.sms_centre.specs.Inside.Lines.{ChangesLine}
use Rattle.sms_centre.specs.Centre.Value.{CentreValue, LineValue, WaitingValue, addresses}
use Rattle.sms_centre.specs.Centre.Standing.{waiting_of, waiting_in, LineStands}

pub set_there : {X : Type 0} (xs : List X) (i : ℕ) (y z : X) → slice_get (set xs i y) i ≡ Some z → z ≡ y
set_there [] zero y z e = absurd cc
set_there [] (suc i) y z e = absurd cc
set_there (x ∷ xs) zero y z e = cc
set_there (x ∷ xs) (suc i) y z e = set_there xs i y z e

pub set_elsewhere : {X : Type 0} (xs : List X) (i j : ℕ) (y : X) → j ≢ i → slice_get (set xs i y) j ≡ slice_get xs j
set_elsewhere [] i j y n = refl
set_elsewhere (x ∷ xs) zero zero y n = absurd (n refl)
set_elsewhere (x ∷ xs) zero (suc j) y n = refl
set_elsewhere (x ∷ xs) (suc i) zero y n = refl
set_elsewhere (x ∷ xs) (suc i) (suc j) y n = set_elsewhere xs i j y (λ e. n (ap suc e))

pub set_same : {X : Type 0} (xs : List X) (i : ℕ) (x : X) → slice_get xs i ≡ Some x → set xs i x ≡ xs
set_same [] i x e = absurd cc
set_same (y ∷ xs) zero x e = let q : x ≡ y = cc in ap (λ v. v ∷ xs) q
set_same (y ∷ xs) (suc i) x e = ap (λ v. y ∷ v) (set_same xs i x e)

-- where a call fails the line is as it was, and so are all lines
pub same_lines : {T E : Type 0} (lines : List LineValue) (i : ℕ) (line new : LineValue) (r : Result T E) → slice_get lines i ≡ Some line → OnErr r (new ≡ line) → OnErr r (set lines i new ≡ lines)
same_lines lines i line new (Ok v) there same = tt
same_lines lines i line new (Err e) there same = ap (set lines i) same ∙ set_same lines i line there

pub addresses_set : (lines : List LineValue) (i : ℕ) (line new : LineValue) → slice_get lines i ≡ Some line → new.address ≡ line.address → addresses (set lines i new) ≡ addresses lines
addresses_set [] i line new e a = absurd cc
addresses_set (l ∷ lines) zero line new e a =
    let same : line ≡ l = cc in
    ap (λ (x : AddressValue). x ∷ addresses lines) (a ∙ ap (λ (x : LineValue). x.address) same)
addresses_set (l ∷ lines) (suc i) line new e a = ap (λ (r : List AddressValue). l.address ∷ r) (addresses_set lines i line new e a)

-- one line in place of another
pub changed_line : (lines : List LineValue) (i : ℕ) (line new : LineValue) → slice_get lines i ≡ Some line → (How : LineValue → LineValue → Type 0) → How line new → ChangesLine i lines (set lines i new) How
changed_line lines i line new there How how = record { before = line; after = new; is_there = there; others_stay = refl; how = how }

-- every other line stands, and the new one does
module _ (phones : List AddressValue) (now : ℕ) (accepted : List Acceptance) (state : ℕ → Line) (lines : List LineValue) (phone : ℕ) (new : LineValue) (after : Line) where
  set_stands_by : (others : (r : ℕ) (line : LineValue) → slice_get lines r ≡ Some line → r ≢ phone → LineStands phones now accepted r line (state r))
      → LineStands phones now accepted phone new after
      → (r : ℕ) (line : LineValue) (b : Bool) → (r == phone) ≡ b → slice_get (set lines phone new) r ≡ Some line → LineStands phones now accepted r line (cond b after (state r))
  set_stands_by others stands r line true e h =
      let same : r ≡ phone = grind (arith, nat_tests) in
      let is : line ≡ new = set_there lines phone new line (subst (λ (n : ℕ). slice_get (set lines phone new) n ≡ Some line) same h) in
      subst (λ (n : ℕ). LineStands phones now accepted n line after) (sym same) (subst (λ (x : LineValue). LineStands phones now accepted phone x after) (sym is) stands)
  set_stands_by others stands r line false e h =
      let apart : r ≢ phone = λ same. let q : true ≡ false = grind (arith, nat_tests) in absurd cc in
      others r line (sym (set_elsewhere lines phone r new apart) ∙ h) apart

  pub set_stands : (others : (r : ℕ) (line : LineValue) → slice_get lines r ≡ Some line → r ≢ phone → LineStands phones now accepted r line (state r))
      → LineStands phones now accepted phone new after
      → (r : ℕ) (line : LineValue) → slice_get (set lines phone new) r ≡ Some line → LineStands phones now accepted r line (changed state phone after r)
  set_stands others stands r line h = set_stands_by others stands r line (r == phone) refl h

-- ---- unended messages

abbrev pub AreUnended : List Acceptance → ℕ → Type 0
AreUnended [] now = Unit {0}
AreUnended (a ∷ queue) now = (nat_lt now a.ends ≡ true) × AreUnended queue now

unended_one : (a : Acceptance) (queue : List Acceptance) (now : ℕ) (b : Bool) → nat_lt now a.ends ≡ b → AreUnended queue now → AreUnended (cond b (a ∷ queue) queue) now
unended_one a queue now true e h = (e, h)
unended_one a queue now false e h = h

pub unended_are : (queue : List Acceptance) (now : ℕ) → AreUnended (unended queue now) now
unended_are [] now = tt
unended_are (a ∷ queue) now = unended_one a (unended queue now) now (nat_lt now a.ends) refl (unended_are queue now)

pub unended_stay : (queue : List Acceptance) (now : ℕ) → AreUnended queue now → unended queue now ≡ queue
unended_stay [] now h = refl
unended_stay (a ∷ queue) now h = rw (h.0) (ap (λ (r : List Acceptance). a ∷ r) (unended_stay queue now h.1))

pub unended_end : (queue : List Acceptance) (a : Acceptance) (now : ℕ) → AreUnended queue now → nat_lt now a.ends ≡ true → unended (queue ++ a ∷ []) now ≡ queue ++ a ∷ []
unended_end [] a now h e = rw e refl
unended_end (x ∷ queue) a now h e = rw (h.0) (ap (λ (r : List Acceptance). x ∷ r) (unended_end queue a now h.1 e))

pub waiting_end : (phones : List AddressValue) (queue : List Acceptance) (a : Acceptance) → waiting_in phones (queue ++ a ∷ []) ≡ waiting_in phones queue ++ waiting_of phones a ∷ []
waiting_end phones [] a = refl
waiting_end phones (x ∷ queue) a = ap (λ (r : List WaitingValue). waiting_of phones x ∷ r) (waiting_end phones queue a)

-- the line at a place
pub line_here : (phone : ℕ) (v : CentreValue) (line : LineValue) → phone < length v.lines → line ≡ get_or v.lines phone line → slice_get v.lines phone ≡ Some line
line_here phone v line within at = slice_get_read v.lines (length v.lines) phone line refl within at

pub free_is : (lines : List LineValue) (r : ℕ) (line : LineValue) → slice_get lines r ≡ Some line → free_at lines r ≡ line.free
free_is [] r line e = absurd cc
free_is (x ∷ lines) zero line e = let q : line ≡ x = cc in ap (λ (l : LineValue). l.free) (sym q)
free_is (x ∷ lines) (suc r) line e = free_is lines r line e

-- the address of a phone is that of its line
pub address_there : (lines : List LineValue) (phone : ℕ) (line : LineValue) → slice_get lines phone ≡ Some line → line.address ≡ address_of (addresses lines) phone
address_there [] phone line e = absurd cc
address_there (x ∷ lines) zero line e = let q : line ≡ x = cc in ap (λ (l : LineValue). l.address) q
address_there (x ∷ lines) (suc phone) line e = address_there lines phone line e

-- What the centre keeps of the histories, from one moment to a later one.
use Rattle.std.proofs.Common.{◌≡◌, ℕ, ◌≤◌, ◌<◌, Bool, true, false, cond, nat_lt, List, [], ◌∷◌, map, length, Some, refl, sym, ap, ◌∙◌, subst, arith, zero, suc}
use Rattle.std.specs.Prelude.{All}
use Rattle.std.specs.List.{slice_get}
use Rattle.std.proofs.lemmas.Bool.Decides.{nat_tests}
use Rattle.sms_field.specs.Address.Value.{AddressValue}
use Rattle.sms_centre.specs.declared.centre.held.Ending.{Ending}
use Rattle.sms_centre.specs.Centre.State.{Acceptance, Line, CentreState}
use Rattle.sms_centre.specs.Centre.Held.{unended}
use Rattle.sms_centre.specs.Centre.Kept.{key_of, IsHeldLater}
use Rattle.sms_centre.specs.Centre.Value.{LineValue, CentreValue, waiting_at, line_at, addresses, HeldValue, endings_after}
use Rattle.sms_centre.specs.Centre.Standing.{waiting_in, LineStands, StandsFor, HeldStands}
use Rattle.sms_centre.proofs.Holdings.{endings_left, endings_later}

-- what has not ended at a moment had not ended before
later : (clock now ends : ℕ) → clock ≤ now → nat_lt now ends ≡ true → nat_lt clock ends ≡ true
later clock now ends le h = grind (arith, nat_tests)

pub held_later : (clock now : ℕ) (accepted : List Acceptance) (v w : HeldValue) → clock ≤ now → IsHeldLater now v w → HeldStands clock accepted v → HeldStands now accepted w
held_later clock now accepted v w le h s = record {
  left = subst (λ (l : List Ending). All (λ e. now < e.end) l) (sym h.endings) (endings_left now v.endings);
  count = λ at later. ap (λ (l : List Ending). length (endings_after at l)) h.endings ∙ (ap (λ (l : List Ending). length l) (endings_later now at v.endings later) ∙ s.count at (omega (arith, le, later)));
  kept = λ phone reference recipient at later. h.kept (key_of phone reference recipient) at later ∙ s.kept phone reference recipient at (omega (arith, le, later));
}

waiting_one : (phones : List AddressValue) (a : Acceptance) (queue : List Acceptance) (clock now : ℕ) (b d : Bool) → nat_lt clock a.ends ≡ b → nat_lt now a.ends ≡ d → clock ≤ now
    → waiting_at now (waiting_in phones (unended queue clock)) ≡ waiting_in phones (unended queue now)
    → waiting_at now (waiting_in phones (cond b (a ∷ unended queue clock) (unended queue clock))) ≡ waiting_in phones (cond d (a ∷ unended queue now) (unended queue now))
waiting_one phones a queue clock now true true e f le ih = rw (f, ih) refl
waiting_one phones a queue clock now true false e f le ih = rw (f, ih) refl
waiting_one phones a queue clock now false true e f le ih = let q : true ≡ false = sym (later clock now a.ends le f) ∙ e in absurd cc
waiting_one phones a queue clock now false false e f le ih = ih

waiting_later : (phones : List AddressValue) (queue : List Acceptance) (clock now : ℕ) → clock ≤ now → waiting_at now (waiting_in phones (unended queue clock)) ≡ waiting_in phones (unended queue now)
waiting_later phones [] clock now le = refl
waiting_later phones (a ∷ queue) clock now le = waiting_one phones a queue clock now (nat_lt clock a.ends) (nat_lt now a.ends) refl refl le (waiting_later phones queue clock now le)

pub addresses_later : (lines : List LineValue) (now : ℕ) → addresses (map (line_at now) lines) ≡ addresses lines
addresses_later [] now = refl
addresses_later (line ∷ lines) now = ap (λ (r : List AddressValue). line.address ∷ r) (addresses_later lines now)

line_later : (phones : List AddressValue) (clock now : ℕ) (accepted : List Acceptance) (r : ℕ) (v : LineValue) (l : Line) → clock ≤ now → LineStands phones clock accepted r v l → LineStands phones now accepted r (line_at now v) l
line_later phones clock now accepted r v l le s = record {
  queue = ap (waiting_at now) s.queue ∙ waiting_later phones l.queue clock now le;
  free = s.free;
  next = s.next;
  latest = s.latest;
}

-- the line of which this one is left
record IsLeftOf (now : ℕ) (lines : List LineValue) (r : ℕ) (line : LineValue) : Type 0 where
  before : LineValue
  is_there : slice_get lines r ≡ Some before
  left : line ≡ line_at now before

left_of : (now : ℕ) (lines : List LineValue) (r : ℕ) (line : LineValue) → slice_get (map (line_at now) lines) r ≡ Some line → IsLeftOf now lines r line
left_of now [] r line e = absurd cc
left_of now (v ∷ lines) zero line e = record { before = v; is_there = refl; left = cc }
left_of now (v ∷ lines) (suc r) line e = let h = left_of now lines r line e in record { before = h.before; is_there = h.is_there; left = h.left }

pub stands_later : (limit : ℕ) (phones : List AddressValue) (clock now : ℕ) (v : CentreValue) (held : HeldValue) (c : CentreState) → clock ≤ now → IsHeldLater now v.held held → StandsFor limit phones clock v c
    → StandsFor limit phones now (record { limit = v.limit; held = held; lines = map (line_at now) v.lines }) c
stands_later limit phones clock now v held c le h s = record {
  limit_is = s.limit_is;
  phones_are = addresses_later v.lines now ∙ s.phones_are;
  held_stand = held_later clock now c.accepted v.held held le h s.held_stand;
  lines_stand = λ r line e.
      let h = left_of now v.lines r line e in
      subst (λ (x : LineValue). LineStands phones now c.accepted r x (c.line r)) (sym h.left)
      (line_later phones clock now c.accepted r h.before (c.line r) le (s.lines_stand r h.before h.is_there));
}

-- The units of segments, one after another.
use Rattle.std.proofs.Common.{◌≡◌, ℕ, zero, suc, ◌+◌, ◌<◌, false, List, [], ◌∷◌, ◌++◌, length, take, Some, None, sym, ap, subst, ◌∙◌, arith}
use Rattle.std.specs.Prelude.{Option, slice_get}
use Rattle.std.specs.List.{flat_map}
use Rattle.std.specs.Io.KnownBytes.{Appends}
use Rattle.std.proofs.lemmas.List.{append-nil, length-take}
use Rattle.std.proofs.lemmas.Grind.{flat_map-append}
use Rattle.sms_page.specs.Page.{PageValue, Puts}
use Rattle.sms_join.specs.declared.segment.Segment.{Segment}
use Rattle.sms_encode.specs.declared.draft.Draft.{Draft}
use Rattle.sms_encode.specs.Drafts.{WritesDraft, line_of}
use Rattle.sms_encode.specs.Frames.{FrameValue}
use Rattle.sms_encode.specs.Units.{AreUnits, SpellsUnit}
use Rattle.sms_encode.specs.Inside.Pages.{IsPageOf, PutsUnits}
use Rattle.sms_encode.proofs.Composed.{Puts-then, Puts-same, whole_page}

units_more : (draft : Draft) (frame : FrameValue) (place : ℕ) (segments : List Segment) (units : List (List ℕ)) (segment : Segment) (unit : List ℕ)
    → AreUnits draft frame place segments units → SpellsUnit draft frame (place + length segments) segment unit
    → AreUnits draft frame place (segments ++ segment ∷ []) (units ++ unit ∷ [])
units_more draft frame place [] [] segment unit are spells =
    let same : place + 0 ≡ place = omega arith in
    (subst (λ (n : ℕ). SpellsUnit draft frame n segment unit) same spells, tt)
units_more draft frame place (s ∷ segments) (u ∷ units) segment unit are spells =
    let same : place + length (s ∷ segments) ≡ (place + 1) + length segments = omega arith in
    (are.0, units_more draft frame (place + 1) segments units segment unit are.1 (subst (λ (n : ℕ). SpellsUnit draft frame n segment unit) same spells))
units_more draft frame place [] (u ∷ units) segment unit are spells = absurd are
units_more draft frame place (s ∷ segments) [] segment unit are spells = absurd are

take_next : (xs : List Segment) (place : ℕ) (x : Segment) → slice_get xs place ≡ Some x → take (place + 1) xs ≡ take place xs ++ x ∷ []
take_next xs place x e = let on : place + 1 ≡ suc place = omega arith in ap (λ (k : ℕ). take k xs) on ∙ go xs place e
  where
    go : (xs : List Segment) (n : ℕ) → slice_get xs n ≡ Some x → take (suc n) xs ≡ take n xs ++ x ∷ []
    go [] n e = absurd cc
    go (y ∷ xs) zero e = let same : y ≡ x = cc in ap (λ z. z ∷ []) same
    go (y ∷ xs) (suc n) e = ap (λ l. y ∷ l) (go xs n e)

-- a place before the end has something
pub is_there : (xs : List Segment) (place : ℕ) → place < length xs → slice_get xs place ≡ None → ⊥
is_there [] place inside e = absurd (omega arith)
is_there (x ∷ xs) zero inside e = absurd cc
is_there (x ∷ xs) (suc place) inside e = is_there xs place (omega (arith, inside)) e

-- the line of the next segment is put
pub one_more : (draft : Draft) (frame : FrameValue) (segments : List Segment) (place : ℕ) (segment : Segment) (unit : List ℕ) (a b c : PageValue)
    → place < length segments → slice_get segments place ≡ Some segment
    → PutsUnits draft frame (take place segments) a b → SpellsUnit draft frame place segment unit → Puts b c (line_of draft.is_for_modem frame.before unit)
    → PutsUnits draft frame (take (place + 1) segments) a c
one_more draft frame segments place segment unit a b c inside is so_far spells put =
    let line : List ℕ → List ℕ = line_of draft.is_for_modem frame.before in
    let count : place ≡ 0 + length (take place segments) = omega (arith, inside, length-take place segments) in
    let own : SpellsUnit draft frame (0 + length (take place segments)) segment unit = subst (λ (n : ℕ). SpellsUnit draft frame n segment unit) count spells in
    let more : AreUnits draft frame 0 (take place segments ++ segment ∷ []) (so_far.units ++ unit ∷ []) = units_more draft frame 0 (take place segments) so_far.units segment unit so_far.are_units own in
    record {
      units = so_far.units ++ unit ∷ [];
      are_units = subst (λ (l : List Segment). AreUnits draft frame 0 l (so_far.units ++ unit ∷ [])) (sym (take_next segments place segment is)) more;
      puts = Puts-same (ap (λ (l : List ℕ). flat_map line so_far.units ++ l) (sym (append-nil (line unit))) ∙ sym (flat_map-append line so_far.units (unit ∷ [])))
          (Puts-then _ _ so_far.puts put);
    }

-- what stands on the page is written
pub written_out : (draft : Draft) (page : PageValue) (written written_then : Option (List ℕ)) → IsPageOf draft page → page.is_cut ≡ false → Appends written written_then page.octets
    → WritesDraft draft written written_then
written_out draft page written written_then is whole appends = record {
  text = is.text;
  encodes = is.encodes;
  written_so = subst (λ (l : List ℕ). Appends written written_then l) (whole_page page is.text is.puts whole) appends;
}

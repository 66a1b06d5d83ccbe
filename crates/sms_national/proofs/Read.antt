-- The texts of the pieces of a text are together the text.
use Rattle.std.proofs.Common.{◌≡◌, ℕ, ◌<◌, ◌≤◌, ◌⊎◌, inl, inr, true, List, [], ◌∷◌, ◌++◌, length, Some, refl, sym, ap, ◌∙◌}
use Rattle.std.proofs.lemmas.Bool.{cases_lt}
use Rattle.std.proofs.lemmas.List.{append-nil}
use Rattle.std.specs.List.{concat, flat_map}
use Rattle.sms_language.specs.SeptetsUnder.{septets_under}
use Rattle.sms_language.specs.TextUnder.{ends_whole, text_under}
use Rattle.sms_language.specs.declared.tables.Tables.{Tables}
use Rattle.sms_national.specs.Cut.{ArePieces, CutIsReadAsText}
use Rattle.sms_national.specs.Rooms.{room_alone, room_beside}

-- the laws of texts under tables that this rests on
abbrev pub ComeBack : Type 0
ComeBack = (tables : Tables) (text septets : List ℕ) → septets_under tables text ≡ Some septets → text_under tables septets ≡ text

abbrev pub ReadAlone : Type 0
ReadAlone = (tables : Tables) (front back : List ℕ) → ends_whole front ≡ true → text_under tables (front ++ back) ≡ text_under tables front ++ text_under tables back

pieces_joined : (room : ℕ) (pieces : List (List ℕ)) (septets : List ℕ) → ArePieces room pieces septets → concat pieces ≡ septets
pieces_joined room [] septets e = sym e
pieces_joined room (p ∷ ps) septets a = ap (λ (l : List ℕ). p ++ l) (pieces_joined room ps a.0 a.3) ∙ a.1

no_text : (tables : Tables) → text_under tables [] ≡ []
unfolding text_under
no_text tables = refl

pieces_read : (read_alone : ReadAlone) (tables : Tables) (room : ℕ) (pieces : List (List ℕ)) (septets : List ℕ) → ArePieces room pieces septets → flat_map (text_under tables) pieces ≡ text_under tables septets
pieces_read read_alone tables room [] septets e = sym (ap (text_under tables) e ∙ no_text tables)
pieces_read read_alone tables room (p ∷ ps) septets a =
    ap (λ (l : List ℕ). text_under tables p ++ l) (pieces_read read_alone tables room ps a.0 a.3)
    ∙ sym (read_alone tables p a.0 a.2.whole) ∙ ap (text_under tables) a.1

pub read_as_text : ComeBack → ReadAlone → CutIsReadAsText
read_as_text come_back read_alone width tables text pieces cut = go (cases_lt (room_alone tables) (length cut.0))
  where
    back : text_under tables cut.0 ≡ text
    back = come_back tables text cut.0 cut.1

    single : pieces ≡ cut.0 ∷ [] → (septets_under tables text ≡ Some (concat pieces)) × (flat_map (text_under tables) pieces ≡ text)
    single e = (
      cut.1 ∙ ap (λ (l : List ℕ). Some l) (sym (ap concat e ∙ append-nil cut.0)),
      ap (flat_map (text_under tables)) e ∙ append-nil (text_under tables cut.0) ∙ back,
    )

    many : ArePieces (room_beside width tables) pieces cut.0 → (septets_under tables text ≡ Some (concat pieces)) × (flat_map (text_under tables) pieces ≡ text)
    many a = (
      cut.1 ∙ ap (λ (l : List ℕ). Some l) (sym (pieces_joined (room_beside width tables) pieces cut.0 a)),
      pieces_read read_alone tables (room_beside width tables) pieces cut.0 a ∙ back,
    )

    go : (room_alone tables < length cut.0) ⊎ (length cut.0 ≤ room_alone tables) → (septets_under tables text ≡ Some (concat pieces)) × (flat_map (text_under tables) pieces ≡ text)
    go (inl more) = many (cut.2.parted more)
    go (inr fits) = single (cut.2.alone fits)

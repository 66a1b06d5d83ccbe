-- The lines of segments, one after another.
use Rattle.std.proofs.Common.{◌≡◌, ℕ, zero, suc, ◌+◌, ◌<◌, List, [], ◌∷◌, ◌++◌, length, take, map, Option, Some, None, refl, ap, sym, subst, ◌∙◌, arith, append-nil, append_assoc}
use Rattle.std.specs.Prelude.{slice_get, option_map, Result, Ok, Err, OnOk}
use Rattle.std.proofs.lemmas.List.{map-append}
use Rattle.std.proofs.KnownBytes.{Appends-nil, Appends-trans}
use Rattle.sms_tpdu.specs.declared.user_data.concat.Width.{Width}
use Rattle.sms_tpdu.specs.declared.user_data.UserData.{UserData}
use Rattle.sms_join.specs.declared.segment.Segment.{Segment}
use Rattle.sms_national.specs.Segments.{Cut}
use Rattle.sms_national.specs.Segments as national
use Rattle.sms_split.specs.declared.long_text.LongText.{LongText}
use Rattle.sms_split.specs.Lines.{IsLineOf, TellsEach, WritesEach}
use Rattle.sms_split.specs.Inside.Heads.{WritesLine, WritesPiece}
use Rattle.sms_split.specs.Told.{SegmentTold, national_told, national_tolds, told_of}

-- ---- places in a list

take_next : {X : Type 0} (xs : List X) (n : ℕ) (x : X) → slice_get xs n ≡ Some x → take (n + 1) xs ≡ take n xs ++ x ∷ []
take_next {X} xs n x e = let on : n + 1 ≡ suc n = omega arith in ap (λ (k : ℕ). take k xs) on ∙ go xs n e
  where
    go : (xs : List X) (n : ℕ) → slice_get xs n ≡ Some x → take (suc n) xs ≡ take n xs ++ x ∷ []
    go [] n e = absurd cc
    go (y ∷ xs) zero e = let same : y ≡ x = cc in ap (λ z. z ∷ []) same
    go (y ∷ xs) (suc n) e = ap (λ l. y ∷ l) (go xs n e)

pub is_there : {X : Type 0} (xs : List X) (n : ℕ) → n < length xs → slice_get xs n ≡ None → ⊥
is_there [] n lt e = absurd (omega (arith, lt))
is_there (x ∷ xs) zero lt e = absurd cc
is_there (x ∷ xs) (suc n) lt e = is_there xs n (omega (arith, lt)) e

-- ---- one line more

tells_more : (long : LongText) (tolds : List SegmentTold) (told : SegmentTold) (text line : List ℕ) → TellsEach long tolds text → IsLineOf long told line → TellsEach long (tolds ++ told ∷ []) (text ++ line)
tells_more long [] told text line none is = (line, [], ap (λ (l : List ℕ). l ++ line) none ∙ sym (append-nil line), is, refl)
tells_more long (first ∷ tolds) told text line h is =
    (h.0, h.1 ++ line, ap (λ (l : List ℕ). l ++ line) h.2 ∙ append_assoc h.0 h.1 line, h.3, tells_more long tolds told h.1 line h.4 is)

pub none_written : (long : LongText) (written : Option (List ℕ)) → WritesEach long [] written written
none_written long written = record { text = []; tells = refl; written_so = Appends-nil written }

pub one_more : (long : LongText) (tolds : List SegmentTold) (told : SegmentTold) (written between written_then : Option (List ℕ))
    → WritesEach long tolds written between → WritesLine long told between written_then → WritesEach long (tolds ++ told ∷ []) written written_then
one_more long tolds told written between written_then all one = record {
  text = all.text ++ one.line;
  tells = tells_more long tolds told all.text one.line all.tells one.is_line;
  written_so = Appends-trans written between written_then all.text one.line all.written_so one.written_so;
}

same_tolds : (long : LongText) (tolds others : List SegmentTold) (written written_then : Option (List ℕ)) → tolds ≡ others → WritesEach long tolds written written_then → WritesEach long others written written_then
same_tolds long tolds others written written_then e w = subst (λ (l : List SegmentTold). WritesEach long l written written_then) e w

-- ---- segments of the default alphabet or of UCS-2

pub segment_more : (long : LongText) (width : Width) (reference : ℕ) (segments : List Segment) (n : ℕ) (segment : Segment) (written between written_then : Option (List ℕ))
    → slice_get segments n ≡ Some segment
    → WritesEach long (map (told_of width reference) (take n segments)) written between → WritesLine long (told_of width reference segment) between written_then
    → WritesEach long (map (told_of width reference) (take (n + 1) segments)) written written_then
segment_more long width reference segments n segment written between written_then is all one =
    let told = told_of width reference in
    same_tolds long _ _ written written_then
    (sym (ap (λ (l : List Segment). map told l) (take_next segments n segment is) ∙ map-append told (take n segments) (segment ∷ [])))
    (one_more long (map told (take n segments)) (told segment) written between written_then all one)

-- ---- segments under national language tables

tolds_more : (cut : Cut) (reference first : ℕ) (pieces : List (List ℕ)) (n : ℕ) (piece : List ℕ) → slice_get pieces n ≡ Some piece
    → national_tolds cut reference first (take (suc n) pieces) ≡ national_tolds cut reference first (take n pieces) ++ national_told cut (n + first) (national.user_of cut reference (n + first) piece) ∷ []
tolds_more cut reference first [] n piece e = absurd cc
tolds_more cut reference first (x ∷ pieces) zero piece e =
    let same : x ≡ piece = cc in
    let at : first ≡ 0 + first = omega arith in
    ap (λ (p : List ℕ). national_told cut first (national.user_of cut reference first p) ∷ []) same
    ∙ ap (λ (m : ℕ). national_told cut m (national.user_of cut reference m piece) ∷ []) at
tolds_more cut reference first (x ∷ pieces) (suc n) piece e =
    let at : n + (first + 1) ≡ suc n + first = omega arith in
    ap (λ (l : List SegmentTold). national_told cut first (national.user_of cut reference first x) ∷ l)
    (tolds_more cut reference (first + 1) pieces n piece e
    ∙ ap (λ (m : ℕ). national_tolds cut reference (first + 1) (take n pieces) ++ national_told cut m (national.user_of cut reference m piece) ∷ []) at)

-- the user data are those of the piece
piece_of : (cut : Cut) (reference sequence : ℕ) (found : Option (List ℕ)) (user : UserData) → option_map (national.user_of cut reference sequence) found ≡ Some user
    → (piece : List ℕ) × (found ≡ Some piece) × (national.user_of cut reference sequence piece ≡ user)
piece_of cut reference sequence None user e = absurd cc
piece_of cut reference sequence (Some piece) user e = (piece, refl, cc)

piece_told : (long : LongText) (cut : Cut) (index : ℕ) (user : UserData) (written written_then : Option (List ℕ))
    → option_map (national.user_of cut long.reference (index + 1)) (slice_get cut.pieces index) ≡ Some user
    → WritesLine long (national_told cut (index + 1) user) written written_then → WritesPiece long cut index written written_then
piece_told long cut index user written written_then is one =
    let found = piece_of cut long.reference (index + 1) (slice_get cut.pieces index) user is in record {
      piece = found.0;
      found = found.1;
      writes = subst (λ (u : UserData). WritesLine long (national_told cut (index + 1) u) written written_then) (sym found.2) one;
    }

-- the line of the user data is that of their piece
pub writes_piece : {A E : Type 0} (r : Result A E) (long : LongText) (cut : Cut) (index : ℕ) (said : Option UserData) (user : UserData) (written written_then : Option (List ℕ))
    → said ≡ option_map (national.user_of cut long.reference (index + 1)) (slice_get cut.pieces index) → said ≡ Some user
    → OnOk r (WritesLine long (national_told cut (index + 1) user) written written_then) → OnOk r (WritesPiece long cut index written written_then)
writes_piece (Ok a) long cut index said user written written_then of is one = piece_told long cut index user written written_then (sym of ∙ is) one
writes_piece (Err e) long cut index said user written written_then of is one = tt

pub piece_more : (long : LongText) (cut : Cut) (n : ℕ) (written between written_then : Option (List ℕ))
    → WritesEach long (national_tolds cut long.reference 1 (take n cut.pieces)) written between → WritesPiece long cut n between written_then
    → WritesEach long (national_tolds cut long.reference 1 (take (n + 1) cut.pieces)) written written_then
piece_more long cut n written between written_then all one =
    let on : n + 1 ≡ suc n = omega arith in
    let more = tolds_more cut long.reference 1 cut.pieces n one.piece one.found in
    same_tolds long _ _ written written_then
    (sym (ap (λ (k : ℕ). national_tolds cut long.reference 1 (take k cut.pieces)) on ∙ more))
    (one_more long (national_tolds cut long.reference 1 (take n cut.pieces)) (national_told cut (n + 1) (national.user_of cut long.reference (n + 1) one.piece)) written between written_then all one.writes)

-- where there is no user data, there is no piece
pub piece_is_there : (cut : Cut) (reference n : ℕ) → n < length cut.pieces → option_map (national.user_of cut reference (n + 1)) (slice_get cut.pieces n) ≡ None → ⊥
piece_is_there cut reference n lt e = is_there cut.pieces n lt (none_found (slice_get cut.pieces n) e)
  where
    none_found : (found : Option (List ℕ)) → option_map (national.user_of cut reference (n + 1)) found ≡ None → found ≡ None
    none_found None e = refl
    none_found (Some piece) e = absurd cc

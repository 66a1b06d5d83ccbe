-- Segments written one after another as user data alone.
use Rattle.std.proofs.Common.{◌≡◌, ℕ, ◌+◌, ◌≤◌, Bool, List, [], ◌∷◌, ◌++◌, length, refl, sym, ap, subst, ◌∙◌, arith, length-append}
use Rattle.std.proofs.lemmas.List.{append-nil}
use Rattle.std.proofs.lemmas.List.Folds.{concat-append}
use Rattle.std.specs.List.{concat}
use Rattle.std.specs.Str.{chars}
use Rattle.sms_tpdu.specs.declared.user_data.concat.Width.{Width}
use Rattle.sms_join.specs.Segments.User.{user_of}
use Rattle.sms_join.specs.Segments.{AreSegments}
use Rattle.sms_join.specs.declared.segment.Segment.{Segment}
use Rattle.sms_c.specs.DataSplitting.{AreApart, OfDataSplit, SpellEachApart, SpellsApart, segment_told, segments_told}
use Rattle.sms_c.specs.Parts.{bits_of}
use Rattle.sms_c.specs.Writing.{is_set}
use Rattle.sms_c.specs.WritingFaults.{IsCutInto}
use Rattle.sms_c.specs.declared.data_splitting.DataFields.{DataFields}
use Rattle.sms_c.specs.declared.data_splitting.DataSegment.{DataSegment}

-- ---- one more

spell_more : (single : Bool) (width : Width) (reference : ℕ) (segments : List Segment) (parts : List (List ℕ)) (segment : Segment) (part : List ℕ) → SpellEachApart single width reference segments parts → SpellsApart single segment.units (user_of width reference segment) part → SpellEachApart single width reference (segments ++ segment ∷ []) (parts ++ part ∷ [])
spell_more single width reference [] [] segment part each one = (one, tt)
spell_more single width reference [] (y ∷ ys) segment part each one = absurd each
spell_more single width reference (x ∷ xs) [] segment part each one = absurd each
spell_more single width reference (x ∷ xs) (y ∷ ys) segment part each one = (each.0, spell_more single width reference xs ys segment part each.1 one)

told_more : (single : Bool) (width : Width) (reference place : ℕ) (segments : List Segment) (parts : List (List ℕ)) (segment : Segment) (part : List ℕ) → SpellEachApart single width reference segments parts → segments_told width reference place (segments ++ segment ∷ []) (parts ++ part ∷ []) ≡ segments_told width reference place segments parts ++ segment_told (place + length (concat parts)) (length part) segment.units (user_of width reference segment) ∷ []
told_more single width reference place [] [] segment part each =
    let same : place ≡ place + 0 = omega arith in
    ap (λ (n : ℕ). segment_told n (length part) segment.units (user_of width reference segment) ∷ []) same
told_more single width reference place [] (y ∷ ys) segment part each = absurd each
told_more single width reference place (x ∷ xs) [] segment part each = absurd each
told_more single width reference place (x ∷ xs) (y ∷ ys) segment part each =
    let same : (place + length y) + length (concat ys) ≡ place + length (y ++ concat ys) = omega (arith, length-append y (concat ys)) in
    ap (λ (l : List DataSegment). segment_told place (length y) x.units (user_of width reference x) ∷ l)
    (told_more single width reference (place + length y) xs ys segment part each.1
    ∙ ap (λ (n : ℕ). segments_told width reference (place + length y) xs ys ++ segment_told n (length part) segment.units (user_of width reference segment) ∷ []) same)

zero_more : (n : ℕ) → n ≡ 0 + n
zero_more n = omega arith

pub none_apart : (single : Bool) (width : Width) (reference : ℕ) → AreApart single width reference [] [] []
none_apart single width reference = record { parts = []; spelled = tt; joined = refl; are_told = refl }

pub one_more_apart : (single : Bool) (width : Width) (reference : ℕ) (segments : List Segment) (octets : List ℕ) (told : List DataSegment) (segment : Segment) (part : List ℕ) → AreApart single width reference segments octets told → SpellsApart single segment.units (user_of width reference segment) part → AreApart single width reference (segments ++ segment ∷ []) (octets ++ part) (told ++ segment_told (length octets) (length part) segment.units (user_of width reference segment) ∷ [])
one_more_apart single width reference segments octets told segment part all one =
    record {
      parts = all.parts ++ part ∷ [];
      spelled = spell_more single width reference segments all.parts segment part all.spelled one;
      joined = ap (λ (l : List ℕ). l ++ part) all.joined ∙ ap (λ (l : List ℕ). concat all.parts ++ l) (sym (append-nil part)) ∙ sym (concat-append all.parts (part ∷ []));
      are_told = ap (λ (l : List DataSegment). l ++ segment_told (length octets) (length part) segment.units (user_of width reference segment) ∷ []) all.are_told
          ∙ ap (λ (l : List ℕ). segments_told width reference 0 segments all.parts ++ segment_told (length l) (length part) segment.units (user_of width reference segment) ∷ []) all.joined
          ∙ ap (λ (n : ℕ). segments_told width reference 0 segments all.parts ++ segment_told n (length part) segment.units (user_of width reference segment) ∷ []) (zero_more (length (concat all.parts)))
          ∙ sym (told_more single width reference 0 segments all.parts segment part all.spelled);
    }

pub as_apart : (single : Bool) (width : Width) (reference : ℕ) (segments others : List Segment) (octets same : List ℕ) (told those : List DataSegment) → others ≡ segments → same ≡ octets → those ≡ told → AreApart single width reference segments octets told → AreApart single width reference others same those
as_apart single width reference segments others octets same told those is_segments is_octets is_told all =
    subst (λ (l : List Segment). AreApart single width reference l same those) (sym is_segments)
    (subst (λ (l : List ℕ). AreApart single width reference segments l those) (sym is_octets)
    (subst (λ (l : List DataSegment). AreApart single width reference segments octets l) (sym is_told) all))

-- ---- what becomes of them

pub of_data_split : (fields : DataFields) (text inner : List ℕ) (count : ℕ) (Out : List ℕ → List DataSegment → Type 0) (width : Width) (segments : List Segment) (octets same : List ℕ) (told those : List DataSegment) (single : Bool) → fields.segments.width ≡ bits_of width → inner ≡ text → AreSegments width (chars inner) segments → count ≡ length segments → count ≤ 255 → single ≡ is_set fields.single → AreApart single width fields.segments.reference segments octets told → same ≡ octets → those ≡ told → Out same those → OfDataSplit fields text count Out
of_data_split fields text inner count Out width segments octets same told those single width_is same_text whole counted few is_single all is_octets is_told out =
    record {
      width = width;
      width_is = width_is;
      segments = segments;
      cut = subst (λ (l : List ℕ). AreSegments width (chars l) segments) same_text whole;
      counted = counted;
      few = few;
      octets = same;
      told = those;
      apart = subst (λ (b : Bool). AreApart b width fields.segments.reference segments same those) is_single (as_apart single width fields.segments.reference segments segments octets same told those refl is_octets is_told all);
      out = out;
    }

pub data_cut_into : (fields : DataFields) (text : List ℕ) (count : ℕ) (Out : List ℕ → List DataSegment → Type 0) → OfDataSplit fields text count Out → IsCutInto fields.segments text count
data_cut_into fields text count Out is = record { width = is.width; width_is = is.width_is; segments = is.segments; cut = is.cut; counted = is.counted; few = is.few }

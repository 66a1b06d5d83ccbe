-- Segments written one after another.
use Rattle.std.proofs.Common.{◌≡◌, ℕ, zero, suc, ◌+◌, ◌<◌, ◌≤◌, ◌⊎◌, inl, inr, List, [], ◌∷◌, ◌++◌, length, map, take, Some, None, refl, sym, ap, subst, ◌∙◌, arith, length-append}
use Rattle.std.proofs.lemmas.Bool.{cases_lt}
use Rattle.std.proofs.lemmas.List.{append-nil}
use Rattle.std.proofs.lemmas.List.Folds.{concat-append}
use Rattle.std.specs.List.{concat, flat_map, AllByRecursion}
use Rattle.std.specs.Prelude.{slice_get}
use Rattle.std.specs.Str.{chars}
use Rattle.sms_tpdu.specs.UserData.{SpellsUserData}
use Rattle.sms_tpdu.specs.declared.user_data.concat.Width.{Width}
use Rattle.sms_join.specs.Cut.{IsCut, room_alone}
use Rattle.sms_join.specs.Segments.User.{dcs_of, user_of}
use Rattle.sms_join.specs.Segments.{AreSegments}
use Rattle.sms_join.specs.UnitsOfText.{Alphabet, Default, Wide, alphabet_of, units_in, units_of_character, units_of_text, numbers}
use Rattle.sms_join.specs.declared.segment.Segment.{Segment}
use Rattle.sms_join.specs.declared.units.Units.{Units}
use Rattle.sms_c.specs.Parts.{bits_of}
use Rattle.sms_c.specs.Splitting.{SpellEach, spans_from, AreUsers, first_scheme, OfSplit}
use Rattle.sms_c.specs.declared.writing.Reference.{Reference}
use Rattle.sms_c.specs.declared.parts.Span.{Span}

-- ---- one more

spell_more : (width : Width) (reference : ℕ) (segments : List Segment) (users : List (List ℕ)) (segment : Segment) (user : List ℕ) → SpellEach width reference segments users → SpellsUserData (user_of width reference segment) user → SpellEach width reference (segments ++ segment ∷ []) (users ++ user ∷ [])
spell_more width reference [] [] segment user each one = (one, tt)
spell_more width reference [] (y ∷ ys) segment user each one = absurd each
spell_more width reference (x ∷ xs) [] segment user each one = absurd each
spell_more width reference (x ∷ xs) (y ∷ ys) segment user each one = (each.0, spell_more width reference xs ys segment user each.1 one)

abbrev pub one_span : ℕ → ℕ → List Span
one_span offset size = record { offset = offset; length = size } ∷ []

spans_more : (place : ℕ) (users : List (List ℕ)) (user : List ℕ) → spans_from place (users ++ user ∷ []) ≡ spans_from place users ++ one_span (place + length (concat users)) (length user)
spans_more place [] user = let same : place ≡ place + 0 = omega arith in ap (λ (n : ℕ). one_span n (length user)) same
spans_more place (x ∷ xs) user =
    let same : (place + length x) + length (concat xs) ≡ place + length (x ++ concat xs) = omega (arith, length-append x (concat xs)) in
    ap (λ (l : List Span). record { offset = place; length = length x } ∷ l) (spans_more (place + length x) xs user ∙ ap (λ (n : ℕ). spans_from (place + length x) xs ++ one_span n (length user)) same)

zero_more : (n : ℕ) → n ≡ 0 + n
zero_more n = omega arith

pub no_users : (width : Width) (reference : ℕ) → AreUsers width reference [] [] []
no_users width reference = record { users = []; spelled = tt; joined = refl; lie = refl }

pub one_user_more : (width : Width) (reference : ℕ) (segments : List Segment) (octets : List ℕ) (spans : List Span) (segment : Segment) (user : List ℕ) → AreUsers width reference segments octets spans → SpellsUserData (user_of width reference segment) user → AreUsers width reference (segments ++ segment ∷ []) (octets ++ user) (spans ++ one_span (length octets) (length user))
one_user_more width reference segments octets spans segment user all one =
    record {
      users = all.users ++ user ∷ [];
      spelled = spell_more width reference segments all.users segment user all.spelled one;
      joined = ap (λ (l : List ℕ). l ++ user) all.joined ∙ ap (λ (l : List ℕ). concat all.users ++ l) (sym (append-nil user)) ∙ sym (concat-append all.users (user ∷ []));
      lie = ap (λ (l : List Span). l ++ one_span (length octets) (length user)) all.lie ∙ ap (λ (l : List ℕ). spans_from 0 all.users ++ one_span (length l) (length user)) all.joined ∙ ap (λ (n : ℕ). spans_from 0 all.users ++ one_span n (length user)) (zero_more (length (concat all.users))) ∙ sym (spans_more 0 all.users user);
    }

pub as_users : (width : Width) (reference : ℕ) (segments others : List Segment) (octets same : List ℕ) (spans told : List Span) → others ≡ segments → same ≡ octets → told ≡ spans → AreUsers width reference segments octets spans → AreUsers width reference others same told
as_users width reference segments others octets same spans told is_segments is_octets is_spans all =
    subst (λ (l : List Segment). AreUsers width reference l same told) (sym is_segments)
    (subst (λ (l : List ℕ). AreUsers width reference segments l told) (sym is_octets)
    (subst (λ (l : List Span). AreUsers width reference segments octets l) (sym is_spans) all))

-- ---- one coding scheme

-- the TP-DCS of units of an alphabet
abbrev scheme_in : Alphabet → ℕ
scheme_in Default = 0
scheme_in Wide = 8

scheme_of : (alphabet : Alphabet) (list : List ℕ) → dcs_of (units_in alphabet list) ≡ scheme_in alphabet
scheme_of Default list = refl
scheme_of Wide list = refl

all_in : (alphabet : Alphabet) (segments : List Segment) (lists : List (List ℕ)) → map (λ (s : Segment). s.units) segments ≡ map (units_in alphabet) lists → AllByRecursion (λ (s : Segment). dcs_of s.units ≡ scheme_in alphabet) segments
all_in alphabet [] lists is = tt
all_in alphabet (s ∷ segments) [] is = absurd cc
all_in alphabet (s ∷ segments) (l ∷ lists) is =
    let head : s.units ≡ units_in alphabet l = cc in
    let tail : map (λ (s : Segment). s.units) segments ≡ map (units_in alphabet) lists = cc in
    (ap dcs_of head ∙ scheme_of alphabet l, all_in alphabet segments lists tail)

alike : (n : ℕ) (segments : List Segment) → AllByRecursion (λ (s : Segment). dcs_of s.units ≡ n) segments → AllByRecursion (λ (s : Segment). first_scheme segments ≡ dcs_of s.units) segments
alike n [] all = tt
alike n (s ∷ segments) all = (refl, go (dcs_of s.units) all.0 segments all.1)
  where
    go : (first : ℕ) → first ≡ n → (segments : List Segment) → AllByRecursion (λ (s : Segment). dcs_of s.units ≡ n) segments → AllByRecursion (λ (s : Segment). first ≡ dcs_of s.units) segments
    go first is [] all = tt
    go first is (s ∷ segments) all = (is ∙ sym all.0, go first is segments all.1)

lists_of : (width : Width) (text : List ℕ) (pieces : List Units) → IsCut width text pieces → (lists : List (List ℕ)) × (pieces ≡ map (units_in (alphabet_of text)) lists)
lists_of width text pieces cut = go (cases_lt (room_alone (alphabet_of text)) (length (numbers (units_of_text text))))
  where
    go : (room_alone (alphabet_of text) < length (numbers (units_of_text text))) ⊎ (length (numbers (units_of_text text)) ≤ room_alone (alphabet_of text)) → (lists : List (List ℕ)) × (pieces ≡ map (units_in (alphabet_of text)) lists)
    go (inl more) = ((cut.parted more).lists, (cut.parted more).in_alphabet)
    go (inr fits) = (flat_map (units_of_character (alphabet_of text)) text ∷ [], cut.alone fits)

pub one_scheme : (width : Width) (text : List ℕ) (segments : List Segment) → AreSegments width text segments → AllByRecursion (λ (s : Segment). first_scheme segments ≡ dcs_of s.units) segments
one_scheme width text segments are =
    let l = lists_of width text are.0 are.1 in
    alike (scheme_in (alphabet_of text)) segments (all_in (alphabet_of text) segments l.0 (are.2.units ∙ l.1))

-- what becomes of them
pub of_split : (reference : Reference) (text inner : List ℕ) (count dcs : ℕ) (Out : List ℕ → List Span → Type 0) (width : Width) (segments : List Segment) (octets same : List ℕ) (spans told : List Span) → reference.width ≡ bits_of width → inner ≡ text → AreSegments width (chars inner) segments → count ≡ length segments → count ≤ 255 → dcs ≡ first_scheme segments → AreUsers width reference.reference segments octets spans → same ≡ octets → told ≡ spans → Out same told → OfSplit reference text count dcs Out
of_split reference text inner count dcs Out width segments octets same spans told width_is same_text whole counted few first users is_octets is_spans out =
    let cut : AreSegments width (chars text) segments = subst (λ (l : List ℕ). AreSegments width (chars l) segments) same_text whole in
    record {
      width = width;
      width_is = width_is;
      segments = segments;
      cut = cut;
      counted = counted;
      few = few;
      coded = subst (λ (n : ℕ). AllByRecursion (λ (s : Segment). n ≡ dcs_of s.units) segments) (sym first) (one_scheme width (chars text) segments cut);
      octets = same;
      spans = told;
      users = as_users width reference.reference segments segments octets same spans told refl is_octets is_spans users;
      out = out;
    }

-- ---- the first segments

-- the next one too
pub take_next : (xs : List Segment) (n : ℕ) (x : Segment) → slice_get xs n ≡ Some x → take (n + 1) xs ≡ take n xs ++ x ∷ []
take_next xs n x e = let on : n + 1 ≡ suc n = omega arith in ap (λ (k : ℕ). take k xs) on ∙ go xs n e
  where
    go : (xs : List Segment) (n : ℕ) → slice_get xs n ≡ Some x → take (suc n) xs ≡ take n xs ++ x ∷ []
    go [] n e = absurd cc
    go (y ∷ xs) zero e = let same : y ≡ x = cc in ap (λ z. z ∷ []) same
    go (y ∷ xs) (suc n) e = ap (λ l. y ∷ l) (go xs n e)

pub take_all : (xs : List Segment) (n : ℕ) → length xs ≤ n → take n xs ≡ xs
take_all [] zero e = refl
take_all [] (suc n) e = refl
take_all (x ∷ xs) zero e = absurd (omega arith)
take_all (x ∷ xs) (suc n) e = ap (λ l. x ∷ l) (take_all xs n (omega (arith, e)))

pub is_there : (xs : List Segment) (n : ℕ) → n < length xs → slice_get xs n ≡ None → ⊥
is_there [] n lt e = absurd (omega arith)
is_there (x ∷ xs) zero lt e = absurd cc
is_there (x ∷ xs) (suc n) lt e = is_there xs n (omega (arith, lt)) e

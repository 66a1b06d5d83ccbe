-- A text has one cut, so that what is told of it is so.
use Rattle.std.proofs.Common.{◌≡◌, ◌≢◌, ◌&&◌, Bool, true, false, ℕ, ◌<◌, ◌⊎◌, inl, inr, List, [], ◌∷◌, length, Result, Ok, Err, refl, sym, ap, subst, ◌∙◌, arith}
use Rattle.std.proofs.lemmas.List.{length-map}
use Rattle.std.proofs.lemmas.Option.{slice_get_within}
use Rattle.std.proofs.lemmas.Str.{scalars-chars}
use Rattle.std.proofs.Math.Utf8.{scalar, scalars}
use Rattle.std.specs.Prelude.{IfOk}
use Rattle.std.specs.Str.{chars, IsUtf8}
use Rattle.sms_tpdu.specs.declared.user_data.concat.Width.{Width}
use Rattle.sms_tpdu.specs.declared.user_data.concat.Width.TheVariants.{Eight, Sixteen}
use Rattle.sms_join.specs.Cut.{IsCut, HasOneCut}
use Rattle.sms_join.specs.Segments.{AreSegments}
use Rattle.sms_join.specs.UnitsOfText.{IsText}
use Rattle.sms_join.specs.declared.segment.Segment.{Segment}
use Rattle.sms_join.specs.declared.units.Units.{Units}
use Rattle.sms_c.specs.Parts.{bits_of}
use Rattle.sms_c.specs.Splitting.{OfSplit}
use Rattle.sms_c.specs.Status.{status_in}
use Rattle.sms_c.specs.Writing.{IsPieceOf, OfDeliver, OfSubmit}
use Rattle.sms_c.specs.WritingFaults.{EndsBefore, IsAfterAddress, IsCutInto, TakesTooMany}
use Rattle.sms_c.specs.declared.parts.Span.{Span}
use Rattle.sms_c.specs.declared.status.Failure.{Failure}
use Rattle.sms_c.specs.declared.status.Failure.TheVariants as why
use Rattle.sms_c.specs.declared.writing.DeliverFields.{DeliverFields}
use Rattle.sms_c.specs.declared.writing.Reference.{Reference}
use Rattle.sms_c.specs.declared.writing.SubmitFields.{SubmitFields}

-- ---- one cut

both : (a b : Bool) → (a && b) ≡ true → (a ≡ true) × (b ≡ true)
both true true e = (refl, refl)
both true false e = absurd cc
both false b e = absurd cc

text_is : (text : List ℕ) → scalars text ≡ true → IsText text
text_is [] e = tt
text_is (c ∷ text) e = let h = both (scalar c) (scalars text) e in (h.0, text_is text h.1)

one_width : (a b : Width) → bits_of a ≡ bits_of b → a ≡ b
one_width Eight Eight e = refl
one_width Eight Sixteen e = absurd cc
one_width Sixteen Eight e = absurd cc
one_width Sixteen Sixteen e = refl

same_pieces : HasOneCut → (a b : Width) (text : List ℕ) (p q : List Units) → bits_of a ≡ bits_of b → IsUtf8 text → IsCut a (chars text) p → IsCut b (chars text) q → p ≡ q
same_pieces one a b text p q width is first second =
    let other : IsCut a (chars text) q = subst (λ (w : Width). IsCut w (chars text) q) (sym (one_width a b width)) second in
    let law = one a (chars text) (text_is (chars text) (scalars-chars text is)) in
    law.2 p first ∙ sym (law.2 q other)

counted : (width : Width) (text : List ℕ) (segments : List Segment) → (are : AreSegments width text segments) → length segments ≡ length are.0
counted width text segments are = sym (length-map segments (λ (s : Segment). s.units)) ∙ ap length are.2.units

one_count : HasOneCut → (reference : Reference) (text : List ℕ) (n m : ℕ) → IsUtf8 text → IsCutInto reference text n → IsCutInto reference text m → n ≡ m
one_count one reference text n m is a b =
    let same : a.cut.0 ≡ b.cut.0 = same_pieces one a.width b.width text a.cut.0 b.cut.0 (sym a.width_is ∙ b.width_is) is a.cut.1 b.cut.1 in
    a.counted ∙ counted a.width (chars text) a.segments a.cut ∙ ap length same ∙ sym (counted b.width (chars text) b.segments b.cut) ∙ sym b.counted

not_both : HasOneCut → (reference : Reference) (text : List ℕ) (n : ℕ) → IsUtf8 text → IsCutInto reference text n → TakesTooMany reference text → ⊥
not_both one reference text n is a b =
    let same : a.cut.0 ≡ b.pieces = same_pieces one a.width b.width text a.cut.0 b.pieces (sym a.width_is ∙ b.width_is) is a.cut.1 b.cut in
    let size : n ≡ length b.pieces = a.counted ∙ counted a.width (chars text) a.segments a.cut ∙ ap length same in
    absurd (omega (arith, size, a.few, b.many))

-- ---- what is handed out is of a cut

-- the text is cut into so many, and the index is below that
abbrev pub IsWithin : Reference → List ℕ → ℕ → ℕ → Type 0
IsWithin reference text index count = IsCutInto reference text count × (index < count)

of_piece : (reference : Reference) (text : List ℕ) (width : Width) (index count : ℕ) (segment : Segment) → reference.width ≡ bits_of width → IsPieceOf text width index count segment → IsWithin reference text index count
of_piece reference text width index count segment is piece =
    let below : index < length piece.segments = slice_get_within piece.segments index segment piece.there in
    (record { width = width; width_is = is; segments = piece.segments; cut = piece.cut; counted = piece.counted; few = piece.few }, omega (arith, below, piece.counted))

pub of_submit : (fields : SubmitFields) (target text : List ℕ) (index count : ℕ) (Out : List ℕ → Type 0) → OfSubmit fields target text index count Out → IsWithin fields.segments text index count
of_submit fields target text index count Out is = of_piece fields.segments text is.width index count is.segment is.width_is is.piece

pub of_deliver : (fields : DeliverFields) (origin text : List ℕ) (index count : ℕ) (Out : List ℕ → Type 0) → OfDeliver fields origin text index count Out → IsWithin fields.segments text index count
of_deliver fields origin text index count Out is = of_piece fields.segments text is.width index count is.segment is.width_is is.piece

pub of_split : (reference : Reference) (text : List ℕ) (count dcs : ℕ) (Out : List ℕ → List Span → Type 0) → OfSplit reference text count dcs Out → IsCutInto reference text count
of_split reference text count dcs Out is = record { width = is.width; width_is = is.width_is; segments = is.segments; cut = is.cut; counted = is.counted; few = is.few }

-- ---- statuses

pub too_many : HasOneCut → (reference : Reference) (text : List ℕ) (index count : ℕ) (r : Result (Unit {0}) Failure) → IsUtf8 text → TakesTooMany reference text → IfOk r (λ _. IsWithin reference text index count) → (r ≡ Err why.NoRoom → IsWithin reference text index count) → (status_in r ≡ 8 → EndsBefore reference text index count) → (status_in r ≡ 7 → ⊥) → (status_in r ≡ 4 → ⊥) → status_in r < 9 → status_in r ≢ 1 → IsAfterAddress 6 (status_in r)
too_many one reference text index count (Ok tt) is many put room there range utf8 few known = absurd (not_both one reference text count is put.0 many)
too_many one reference text index count (Err why.Refused) is many put room there range utf8 few known = absurd (known refl)
too_many one reference text index count (Err why.Memory) is many put room there range utf8 few known = inr (inr refl)
too_many one reference text index count (Err why.NoRoom) is many put room there range utf8 few known = absurd (not_both one reference text count is (room refl).0 many)
too_many one reference text index count (Err why.NotUtf8) is many put room there range utf8 few known = absurd (utf8 refl)
too_many one reference text index count (Err why.BadAddress) is many put room there range utf8 few known = inr (inl refl)
too_many one reference text index count (Err why.TooLong) is many put room there range utf8 few known = inl refl
too_many one reference text index count (Err why.OutOfRange) is many put room there range utf8 few known = absurd (range refl)
too_many one reference text index count (Err why.NotThere) is many put room there range utf8 few known = absurd (not_both one reference text count is (there refl).0 many)
too_many one reference text index count (Err why.TooManyOpen) is many put room there range utf8 few known = absurd (omega (arith, few))
too_many one reference text index count (Err why.Closed) is many put room there range utf8 few known = absurd (omega (arith, few))
too_many one reference text index count (Err why.Changed) is many put room there range utf8 few known = absurd (omega (arith, few))

pub no_segment : HasOneCut → (reference : Reference) (text : List ℕ) (index count n : ℕ) (r : Result (Unit {0}) Failure) → IsUtf8 text → EndsBefore reference text index n → IfOk r (λ _. IsWithin reference text index count) → (r ≡ Err why.NoRoom → IsWithin reference text index count) → (status_in r ≡ 6 → TakesTooMany reference text) → (status_in r ≡ 7 → ⊥) → (status_in r ≡ 4 → ⊥) → status_in r < 9 → status_in r ≢ 1 → IsAfterAddress 8 (status_in r)
no_segment one reference text index count n (Ok tt) is ends put room long range utf8 few known = let same : count ≡ n = one_count one reference text count n is put.0 ends.0 in absurd (omega (arith, same, put.1, ends.1))
no_segment one reference text index count n (Err why.Refused) is ends put room long range utf8 few known = absurd (known refl)
no_segment one reference text index count n (Err why.Memory) is ends put room long range utf8 few known = inr (inr refl)
no_segment one reference text index count n (Err why.NoRoom) is ends put room long range utf8 few known = let same : count ≡ n = one_count one reference text count n is (room refl).0 ends.0 in absurd (omega (arith, same, (room refl).1, ends.1))
no_segment one reference text index count n (Err why.NotUtf8) is ends put room long range utf8 few known = absurd (utf8 refl)
no_segment one reference text index count n (Err why.BadAddress) is ends put room long range utf8 few known = inr (inl refl)
no_segment one reference text index count n (Err why.TooLong) is ends put room long range utf8 few known = absurd (not_both one reference text n is ends.0 (long refl))
no_segment one reference text index count n (Err why.OutOfRange) is ends put room long range utf8 few known = absurd (range refl)
no_segment one reference text index count n (Err why.NotThere) is ends put room long range utf8 few known = inl refl
no_segment one reference text index count n (Err why.TooManyOpen) is ends put room long range utf8 few known = absurd (omega (arith, few))
no_segment one reference text index count n (Err why.Closed) is ends put room long range utf8 few known = absurd (omega (arith, few))
no_segment one reference text index count n (Err why.Changed) is ends put room long range utf8 few known = absurd (omega (arith, few))

pub split_too_many : HasOneCut → (reference : Reference) (text : List ℕ) (count : ℕ) (r : Result (Unit {0}) Failure) → IsUtf8 text → TakesTooMany reference text → IfOk r (λ _. IsCutInto reference text count) → (r ≡ Err why.NoRoom → IsCutInto reference text count) → (status_in r ≡ 7 → ⊥) → (status_in r ≡ 4 → ⊥) → status_in r < 8 → status_in r ≢ 1 → status_in r ≢ 5 → (status_in r ≡ 6) ⊎ (status_in r ≡ 2)
split_too_many one reference text count (Ok tt) is many put room range utf8 few known address = absurd (not_both one reference text count is put many)
split_too_many one reference text count (Err why.Refused) is many put room range utf8 few known address = absurd (known refl)
split_too_many one reference text count (Err why.Memory) is many put room range utf8 few known address = inr refl
split_too_many one reference text count (Err why.NoRoom) is many put room range utf8 few known address = absurd (not_both one reference text count is (room refl) many)
split_too_many one reference text count (Err why.NotUtf8) is many put room range utf8 few known address = absurd (utf8 refl)
split_too_many one reference text count (Err why.BadAddress) is many put room range utf8 few known address = absurd (address refl)
split_too_many one reference text count (Err why.TooLong) is many put room range utf8 few known address = inl refl
split_too_many one reference text count (Err why.OutOfRange) is many put room range utf8 few known address = absurd (range refl)
split_too_many one reference text count (Err why.NotThere) is many put room range utf8 few known address = absurd (omega (arith, few))
split_too_many one reference text count (Err why.TooManyOpen) is many put room range utf8 few known address = absurd (omega (arith, few))
split_too_many one reference text count (Err why.Closed) is many put room range utf8 few known address = absurd (omega (arith, few))
split_too_many one reference text count (Err why.Changed) is many put room range utf8 few known address = absurd (omega (arith, few))

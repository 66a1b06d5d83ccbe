-- User data alone that are read, refused, and their text.
use Rattle.std.proofs.Common.{◌≡◌, ℕ, Bool, true, false, List, length, None, Result, Ok, Err, String, Global, refl, sym, subst}
use Rattle.std.specs.Prelude.{MatchResult, ◌==◌, ◌&&◌}
use Rattle.std.specs.Str.{chars}
use Rattle.std.specs.String.{string_bytes}
use Rattle.sms_field.specs.Field.{Field}
use Rattle.sms_field.specs.Reading.{Reads}
use Rattle.sms_field.specs.Reading.WholeAnswer.{IsFaultOf}
use Rattle.sms_field.specs.declared.coding.Alphabet.{Alphabet}
use Rattle.sms_field.specs.declared.coding.Alphabet.TheVariants.{Gsm7, EightBit, Ucs2, Compressed}
use Rattle.sms_field.specs.declared.refusal.Fault.{Fault}
use Rattle.sms_tpdu.specs.UserData.{BodyFits, FitsAlphabet, header_octets}
use Rattle.sms_tpdu.specs.UserData.Alone.{SeesAlone, SeesFrom, count_for, data_of, length_by}
use Rattle.sms_tpdu.specs.UserData.Singles.{SeesSingles, singles_for, singles_of}
use Rattle.sms_tpdu.specs.UserData.Text.{text_of_body}
use Rattle.sms_tpdu.specs.declared.user_data.UserData.{UserData}
use Rattle.sms_tpdu.specs.declared.user_data.body.Body.{Body}
use Rattle.sms_tpdu.specs.declared.user_data.body.Body.TheVariants as body
use Rattle.sms_tpdu.specs.declared.fault.UnitFault.{UnitFault}
use Rattle.sms_tpdu.specs.declared.fault.UnitFault.TheVariants as unit
use Rattle.sms_tpdu.specs.declared.user_data.data_fault.DataFault.{DataFault}
use Rattle.sms_tpdu.specs.declared.user_data.data_fault.DataFault.TheVariants as single
use Rattle.sms_tpdu.specs.declared.user_data.view.alone.Length.{Length}
use Rattle.sms_c.specs.DataAlone.{alphabet_in, are_single, has_septets, headed, is_text, length_of, length_told, HasText, IsTextBy, OfDataText, ReadsBy, ReadsData, ReadsPacked, ReadsSingles, RefusesBy, RefusesPacked, ShowsBy}
use Rattle.sms_c.specs.Status.{unit_refused}
use Rattle.sms_c.specs.Writing.{is_set}
use Rattle.sms_c.specs.declared.reading.data.DataForm.{DataForm}
use Rattle.sms_c.specs.declared.reading.data.DataSeen.{DataSeen}
use Rattle.sms_c.specs.declared.status.Refused.{Refused}
use Rattle.sms_c.proofs.Texts.{of_text}

-- ---- of what a reader answers by a field that goes by a length

abbrev pub Sees : {V W : Type 0} → Result ℕ W → (ℕ → Field V W) → W → List ℕ → Result (V × ℕ) (Fault W) → Type 0
Sees c field short input r = MatchResult c (λ n. SeesFrom (field n) short input r) (λ why. r ≡ Err (record { place = 0; why = why }))

pub found : {V W : Type 0} (c : Result ℕ W) (field : ℕ → Field V W) (short : W) (input : List ℕ) (value : V) (used : ℕ) → Sees c field short input (Ok (value, used)) → (n : ℕ) × (c ≡ Ok n) × Reads (field n) value input used
found (Ok n) field short input value used sees = (n, refl, sees.found)
found (Err why) field short input value used sees = absurd cc

pub refused : {V W : Type 0} (c : Result ℕ W) (field : ℕ → Field V W) (short : W) (input : List ℕ) (fault : Fault W) → Sees c field short input (Err fault) → MatchResult c (λ n. IsFaultOf (field n) short input fault) (λ why. fault ≡ record { place = 0; why = why })
refused (Ok n) field short input fault sees = sees.refused
refused (Err why) field short input fault sees = cc

pub exact : {V W : Type 0} (c : Result ℕ W) (field : ℕ → Field V W) (short : W) (input : List ℕ) (r : Result (V × ℕ) (Fault W)) → Sees c field short input r → (m : ℕ) → c ≡ Ok m → (value : V) (used : ℕ) → Reads (field m) value input used → MatchResult r (λ x. (x.0 ≡ value) × (x.1 ≡ used)) (λ _. ⊥)
exact (Ok n) field short input r sees m is value used read = let same : n ≡ m = cc in sees.exact value used (subst (λ (k : ℕ). Reads (field k) value input used) (sym same) read)
exact (Err why) field short input r sees m is value used read = absurd cc

-- ---- texts

pub text_there : (alphabet : Alphabet) (user : UserData) → is_text alphabet ≡ true → FitsAlphabet alphabet user → text_of_body alphabet user.body ≡ None → ⊥
text_there alphabet user is fits none = go alphabet user.body is fits.1 none
  where
    go : (alphabet : Alphabet) (b : Body) → is_text alphabet ≡ true → BodyFits alphabet (length (header_octets user.header)) b → text_of_body alphabet b ≡ None → ⊥
    go Gsm7 (body.Septets septets) is fits none = absurd cc
    go Gsm7 (body.Octets octets) is fits none = absurd fits
    go Ucs2 (body.Septets septets) is fits none = absurd cc
    go Ucs2 (body.Octets octets) is fits none = absurd cc
    go EightBit b is fits none = absurd cc
    go Compressed b is fits none = absurd cc

pub of_data_text : (form : DataForm) (octets : List ℕ) (Out : List ℕ → Type 0) (text : String Global) (bytes : List ℕ) → bytes ≡ string_bytes text → HasText form octets (chars (string_bytes text)) → Out bytes → OfDataText form octets Out
of_data_text form octets Out text bytes e has out = record { text = chars (string_bytes text); has = has; told = of_text (chars (string_bytes text)) Out text bytes e refl out }

-- ---- by the way that septets stand

pub reads_by : (b c : Bool) (form : DataForm) (octets : List ℕ) (seen : DataSeen) → b ≡ c → (value : UserData) × ReadsBy c form octets value seen.used × ShowsBy c form.dcs value seen → (value : UserData) × ReadsBy b form octets value seen.used × ShowsBy b form.dcs value seen
reads_by b c form octets seen same read = subst (λ (k : Bool). (value : UserData) × ReadsBy k form octets value seen.used × ShowsBy k form.dcs value seen) (sym same) read

pub refuses_by : (b c : Bool) (form : DataForm) (octets : List ℕ) (told : Refused) → b ≡ c → RefusesBy c form octets told → RefusesBy b form octets told
refuses_by b c form octets told same is = subst (λ (k : Bool). RefusesBy k form octets told) (sym same) is

-- ---- septets one an octet

pub singles_exact : (form : DataForm) (octets : List ℕ) (h : Bool) (r : Result (UserData × ℕ) (Fault DataFault)) → h ≡ headed form → are_single form ≡ true → SeesSingles h octets r → (value : UserData) (used : ℕ) → ReadsData form octets value used → MatchResult r (λ x. (x.0 ≡ value) × (x.1 ≡ used)) (λ _. ⊥)
singles_exact form octets h r same is sees value used read =
    let there : ReadsSingles form octets value used = subst (λ (b : Bool). ReadsBy b form octets value used) is read in
    let seen : SeesSingles (headed form) octets r = subst (λ (k : Bool). SeesSingles k octets r) same sees in
    exact (singles_for (headed form) (length octets)) (singles_of (headed form)) single.Short octets r seen there.total there.counted value used there.read

pub singles_found : (form : DataForm) (octets : List ℕ) (h : Bool) (value : UserData) (used : ℕ) → h ≡ headed form → are_single form ≡ true → SeesSingles h octets (Ok (value, used)) → ReadsData form octets value used
singles_found form octets h value used same is sees =
    let seen : SeesSingles (headed form) octets (Ok (value, used)) = subst (λ (k : Bool). SeesSingles k octets (Ok (value, used))) same sees in
    let f = found (singles_for (headed form) (length octets)) (singles_of (headed form)) single.Short octets value used seen in
    let there : ReadsSingles form octets value used = record { total = f.0; counted = f.1; read = f.2 } in
    subst (λ (b : Bool). ReadsBy b form octets value used) (sym is) there

is_gsm : (a : Alphabet) (b : Bool) → (b && has_septets a) ≡ true → a ≡ Gsm7
is_gsm Gsm7 b e = refl
is_gsm EightBit true e = absurd cc
is_gsm EightBit false e = absurd cc
is_gsm Ucs2 true e = absurd cc
is_gsm Ucs2 false e = absurd cc
is_gsm Compressed true e = absurd cc
is_gsm Compressed false e = absurd cc

pub singles_text : (form : DataForm) (octets : List ℕ) (h l : Bool) (value : UserData) (used : ℕ) (text : List ℕ) → h ≡ headed form → l ≡ is_set form.languages → are_single form ≡ true → SeesSingles h octets (Ok (value, used)) → IsTextBy l Gsm7 value text → HasText form octets text
singles_text form octets h l value used text same told is sees has =
    record {
      value = value;
      used = used;
      read = singles_found form octets h value used same is sees;
      is = subst (λ (b : Bool). IsTextBy b (alphabet_in form) value text) told
          (subst (λ (a : Alphabet). IsTextBy l a value text) (sym (is_gsm (alphabet_in form) (form.standing == 2) is)) has);
    }

-- ---- packed

packed_sees : (form : DataForm) (octets : List ℕ) (h : Bool) (a : Alphabet) (t : Length) (r : Result (UserData × ℕ) (Fault UnitFault)) → h ≡ headed form → a ≡ alphabet_in form → t ≡ length_told form → SeesAlone h a (length_by t a (length octets)) octets r → SeesAlone (headed form) (alphabet_in form) (length_of form octets) octets r
packed_sees form octets h a t r same in_alphabet told sees =
    subst (λ (k : Length). SeesAlone (headed form) (alphabet_in form) (length_by k (alphabet_in form) (length octets)) octets r) told
    (subst (λ (k : Alphabet). SeesAlone (headed form) k (length_by t k (length octets)) octets r) in_alphabet
    (subst (λ (k : Bool). SeesAlone k a (length_by t a (length octets)) octets r) same sees))

pub packed_exact : (form : DataForm) (octets : List ℕ) (h : Bool) (a : Alphabet) (t : Length) (r : Result (UserData × ℕ) (Fault UnitFault)) → h ≡ headed form → a ≡ alphabet_in form → t ≡ length_told form → are_single form ≡ false → SeesAlone h a (length_by t a (length octets)) octets r → (value : UserData) (used : ℕ) → ReadsData form octets value used → MatchResult r (λ x. (x.0 ≡ value) × (x.1 ≡ used)) (λ _. ⊥)
packed_exact form octets h a t r same in_alphabet told is sees value used read =
    let there : ReadsPacked form octets value used = subst (λ (b : Bool). ReadsBy b form octets value used) is read in
    exact (count_for (headed form) (alphabet_in form) (length_of form octets)) (data_of (headed form) (alphabet_in form)) unit.Short octets r (packed_sees form octets h a t r same in_alphabet told sees) there.count there.counted value used there.read

pub packed_found : (form : DataForm) (octets : List ℕ) (h : Bool) (a : Alphabet) (t : Length) (value : UserData) (used : ℕ) → h ≡ headed form → a ≡ alphabet_in form → t ≡ length_told form → are_single form ≡ false → SeesAlone h a (length_by t a (length octets)) octets (Ok (value, used)) → ReadsData form octets value used
packed_found form octets h a t value used same in_alphabet told is sees =
    let f = found (count_for (headed form) (alphabet_in form) (length_of form octets)) (data_of (headed form) (alphabet_in form)) unit.Short octets value used (packed_sees form octets h a t (Ok (value, used)) same in_alphabet told sees) in
    let there : ReadsPacked form octets value used = record { count = f.0; counted = f.1; read = f.2 } in
    subst (λ (b : Bool). ReadsBy b form octets value used) (sym is) there

pub packed_refused : (form : DataForm) (octets : List ℕ) (h : Bool) (a : Alphabet) (t : Length) (fault : Fault UnitFault) (told : Refused) → h ≡ headed form → a ≡ alphabet_in form → t ≡ length_told form → SeesAlone h a (length_by t a (length octets)) octets (Err fault) → told ≡ unit_refused fault → RefusesPacked form octets told
packed_refused form octets h a t fault told same in_alphabet is_told sees is =
    record { fault = fault; is = refused (count_for (headed form) (alphabet_in form) (length_of form octets)) (data_of (headed form) (alphabet_in form)) unit.Short octets fault (packed_sees form octets h a t (Err fault) same in_alphabet is_told sees); told = is }

pub packed_text : (form : DataForm) (octets : List ℕ) (l : Bool) (a : Alphabet) (value : UserData) (used : ℕ) (text : List ℕ) → l ≡ is_set form.languages → a ≡ alphabet_in form → ReadsData form octets value used → IsTextBy l a value text → HasText form octets text
packed_text form octets l a value used text told in_alphabet read has =
    record {
      value = value;
      used = used;
      read = read;
      is = subst (λ (b : Bool). IsTextBy b (alphabet_in form) value text) told (subst (λ (k : Alphabet). IsTextBy l k value text) in_alphabet has);
    }

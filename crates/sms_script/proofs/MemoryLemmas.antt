-- For which words memory may run out.
use Rattle.std.proofs.Common.{◌≡◌, ◌≢◌, ◌%◌, ℕ, List, [], ◌∷◌, length, Bool, cond, eqb, true, false, Option, Some, None, Result, Ok, Err, refl, sym, ap, ◌∙◌, subst}
use Rattle.std.specs.Prelude.{nat_le, is_ok}
use Rattle.std.specs.List.{list_all}
use Rattle.std.specs.Str.{chars}
use Rattle.std.proofs.lemmas.Bool.{eqb-true}
use Rattle.std.proofs.lemmas.List.Sums.{AllPass-from_list_all, list_all-from_AllPass}
use Rattle.hex.specs.Hex.{decode_of, is_hex_digit}
use Rattle.hex.specs.declared.error.FromHexError.{FromHexError}
use Rattle.hex.proofs.HexLemmas.{decode_of-ok, decode_of-digits}
use Rattle.sms_text.specs.SeptetsOfText.{septets_of_text}
use Rattle.sms_field.specs.Address.DigitText.{digits_of_text}
use Rattle.sms_field.specs.Address.Text.{name_of, few_digits, telephone_of, telephone_or_name, without_plus, address_of_text, IsNoNumber}
use Rattle.sms_field.specs.Address.Value.{AddressValue}
use Rattle.sms_field.specs.declared.fault.AddressFault.{AddressFault}
use Rattle.sms_field.specs.declared.name.TheConstants.{NAME_MAX}
use Rattle.sms_script.specs.Meaning.{new_address, meaning}
use Rattle.sms_script.specs.Meaning.Known.{KnownValue}
use Rattle.sms_script.specs.Meaning.Memory.{TakesMemory, TypesToName, MayRunOut}
use Rattle.sms_script.specs.Reasons.{Gives}
use Rattle.sms_script.specs.Words.Addresses.{address, or_bad}
use Rattle.sms_script.specs.declared.fault.MeaningFault.{MeaningFault}
use Rattle.sms_script.specs.declared.fault.MeaningFault.TheVariants.{Memory, Script}
use Rattle.sms_script.specs.declared.fault.ScriptFault.TheVariants.{BadAddress}
use Rattle.sms_script.specs.declared.meaning.statement.Statement.{Statement}
use Rattle.sms_script.specs.declared.meaning.statement.Statement.TheVariants as statements

-- a text that does not begin with a plus sign is digits or a name
no_plus : (text : List ℕ) → ((rest : List ℕ) → text ≢ 43 ∷ rest) → address_of_text text ≡ without_plus text
unfolding address_of_text
no_plus [] other = refl
no_plus (c ∷ text) other = go (eqb c 43) refl
  where
    go : (b : Bool) → eqb c 43 ≡ b → cond b (telephone_of 1 (few_digits (digits_of_text text))) (without_plus (c ∷ text)) ≡ without_plus (c ∷ text)
    go true is = absurd (other text (ap (λ (n : ℕ). n ∷ text) (eqb-true c 43 is)))
    go false is = refl

-- what is no number is read as a name
is_named : (text : List ℕ) → IsNoNumber text → address_of_text text ≡ name_of (septets_of_text text)
is_named text other = no_plus text other.0 ∙ ap (λ digits. telephone_or_name (few_digits digits) (name_of (septets_of_text text))) other.1

-- a name is no phone's address
no_phone_named : (known : KnownValue) (word : List ℕ) (read : Option (List ℕ)) → address word ≡ or_bad (name_of read) → new_address known word ≡ Err BadAddress
no_phone_named known word None is = rw is refl
no_phone_named known word (Some septets) is = by_length (nat_le (length septets) NAME_MAX) refl
  where
    by_length : (b : Bool) → nat_le (length septets) NAME_MAX ≡ b → new_address known word ≡ Err BadAddress
    by_length true few = rw (is, few) refl
    by_length false few = rw (is, few) refl

pub no_phone : (known : KnownValue) (word : List ℕ) → IsNoNumber (chars word) → new_address known word ≡ Err BadAddress
no_phone known word other = no_phone_named known word (septets_of_text (chars word)) (ap or_bad (is_named (chars word) other))

-- two hexadecimal digits for each octet are octets, and no other word is
pub decodes : (word : List ℕ) → length word % 2 ≡ 0 → list_all is_hex_digit word ≡ is_ok (decode_of word)
decodes word even = by_digits (list_all is_hex_digit word) refl (decode_of word) refl
  where
    by_digits : (digits : Bool) → list_all is_hex_digit word ≡ digits → (r : Result (List ℕ) FromHexError) → decode_of word ≡ r → digits ≡ is_ok r
    by_digits true d (Ok bytes) is = refl
    by_digits true d (Err why) is =
        let r = decode_of-digits word even (AllPass-from_list_all is_hex_digit word d) in
        cc (sym is ∙ r.1)
    by_digits false d (Ok bytes) is =
        let r = decode_of-ok word bytes is in
        sym d ∙ list_all-from_AllPass is_hex_digit word r.1
    by_digits false d (Err why) is = refl

-- a word is no address of a phone, where it was not read as one
pub no_address : (known : KnownValue) (word : List ℕ) (fault : MeaningFault) → Gives {A = AddressValue} (λ _. IsNoNumber (chars word)) (λ a. a) (Err fault) (address word) → new_address known word ≡ Err BadAddress
no_address known word Memory other = no_phone known word other
no_address known word (Script why) said = by_text (address_of_text (chars word)) refl
  where
    by_text : (r : Result AddressValue AddressFault) → address_of_text (chars word) ≡ r → new_address known word ≡ Err BadAddress
    by_text (Ok a) is = cc (sym (ap or_bad is) ∙ said)
    by_text (Err fault) is = rw is refl

-- a statement takes memory or not, whatever stands for a name
pub takes_as : (One Other : Type 0) (st : Statement) → TakesMemory One (Ok st) → TakesMemory Other (Ok st)
takes_as One Other (statements.Phone phone) t = tt
takes_as One Other (statements.Event event) t = tt
takes_as One Other statements.Nothing t = absurd t
takes_as One Other (statements.Limit which n) t = absurd t
takes_as One Other (statements.Clock n) t = absurd t
takes_as One Other statements.Brief t = absurd t
takes_as One Other statements.Wide t = absurd t
takes_as One Other statements.Reject t = absurd t

-- memory may run out for a line that says such a statement
pub may_run_out : (known : KnownValue) (line : List ℕ) (st : Statement) → meaning known line ≡ Ok st → TakesMemory ⊥ (Ok st) → MayRunOut known line
may_run_out known line st says t = subst (TakesMemory (TypesToName line)) (sym says) (takes_as ⊥ (TypesToName line) st t)

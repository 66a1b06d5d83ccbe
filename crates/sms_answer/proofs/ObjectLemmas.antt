-- An object that is written a token at a time.
use Rattle.std.proofs.Common.{◌≡◌, ℕ, ◌+◌, ◌<◌, ◌≤◌, Bool, true, false, List, [], ◌∷◌, ◌++◌, length, take, drop, Option, Some, None, decimal, codes, refl, ap, sym, subst, ◌∙◌, arith, append_assoc, if◌then◌else◌}
use Rattle.std.proofs.lemmas.Bool.{false≢true}
use Rattle.std.proofs.lemmas.List.{take_all, append-nil, take-append-drop, drop_all}
use Rattle.sms_page.specs.Page.{PageValue, Puts}
use Rattle.sms_page.specs.Escapes.{escaped, json}
use Rattle.sms_page.specs.Object.{ObjectValue, Token, Writes, texts, after, object, end_object, list, end_list, name, value}
use Rattle.sms_told.specs.declared.form.Form.TheVariants.{Json}
use Rattle.sms_answer.specs.Text.{IsInLine, is_in_line, ended}
use Rattle.sms_answer.specs.Answer.{AnswerValue, EndsNumber, Ends, begun}
use Rattle.sms_answer.specs.Inside.Writing.{WillEndNumber, IsBegun, IsObjectBehind, begun_tokens}
use Rattle.sms_answer.proofs.InLine.{AreInLine, all-append, texts_in_line}
use Rattle.sms_answer.proofs.Standing.{was_whole, all_put, front_stays, still_within, behind_put, still_cut, before}

no_digit : (number : ℕ) (has_value : Bool) (token : Token) (tokens : List Token) → WillEndNumber (Some number) has_value (texts true (token ∷ tokens))
unfolding texts
no_digit number has_value object tokens = refl
no_digit number has_value end_object tokens = refl
no_digit number has_value list tokens = refl
no_digit number has_value end_list tokens = refl
no_digit number has_value (name text) tokens = refl
no_digit number has_value (value text) tokens = refl

ends_still : (number : Option ℕ) (old new : Bool) (rest : List ℕ) (token : Token) (tokens : List Token) → WillEndNumber number old rest → WillEndNumber number new (rest ++ texts old (token ∷ tokens))
ends_still None old new rest token tokens will = tt
ends_still (Some number) old new [] token tokens will =
    let P : Bool → Type 0 = λ b. WillEndNumber (Some number) new (texts b (token ∷ tokens)) in
    subst P (sym will) (no_digit number new token tokens)
ends_still (Some number) old new (x ∷ rest) token tokens will = will

begun_then : (number : Option ℕ) (old new : Bool) (text : List ℕ) (token : Token) (tokens : List Token) → AreInLine (token ∷ tokens) → IsBegun number old text → IsBegun number new (text ++ texts old (token ∷ tokens))
begun_then number old new text token tokens are is = record {
  rest = is.rest ++ texts old (token ∷ tokens);
  in_line = all-append is_in_line is.rest (texts old (token ∷ tokens)) is.in_line (texts_in_line old (token ∷ tokens) are);
  apart = ends_still number old new is.rest token tokens is.apart;
  begins = ap (λ (l : List ℕ). l ++ texts old (token ∷ tokens)) is.begins ∙ append_assoc (begun number) is.rest (texts old (token ∷ tokens));
}

-- the answer whose object stands behind so many octets
abbrev pub object_value : ℕ → Bool → Option ℕ → ObjectValue → AnswerValue
object_value base was_cut number o = record { front = before base was_cut o.page; form = Json; number = number }

pub object_stays : {old new : ObjectValue} (base : ℕ) (was_cut : Bool) (number : Option ℕ) (token : Token) (tokens : List Token) → Writes old new (token ∷ tokens) → AreInLine (token ∷ tokens) → IsObjectBehind base was_cut number old
    → IsObjectBehind base was_cut number new
object_stays {old} {new} base was_cut number token tokens w are stands =
    let xs = texts old.has_value (token ∷ tokens) in
    let P : List ℕ → Type 0 = λ l. IsBegun number new.has_value l in
    record {
      within = still_within base xs w.put stands.within;
      cut = still_cut xs was_cut w.put stands.cut;
      is_begun = λ open_still.
          subst P (sym (behind_put base xs w.put stands.within open_still))
          (begun_then number old.has_value new.has_value (drop base old.page.octets) token tokens are (stands.is_begun (was_whole xs w.put open_still)));
    }

pub value_stays : {old new : ObjectValue} (base : ℕ) (was_cut : Bool) (number : Option ℕ) (tokens : List Token) (answer : AnswerValue) → Writes old new tokens → IsObjectBehind base was_cut number old
    → object_value base was_cut number old ≡ answer → object_value base was_cut number new ≡ answer
value_stays {old} {new} base was_cut number tokens answer w stands is =
    ap (λ (l : List ℕ). record { front = record { octets = l; is_cut = was_cut }; form = Json; number = number }) (front_stays base (texts old.has_value tokens) w.put stands.within) ∙ is

pub object_cut : (o : ObjectValue) (base : ℕ) (was_cut : Bool) (number : Option ℕ) → IsObjectBehind base was_cut number o
    → IsObjectBehind base was_cut number (record { page = record { octets = o.page.octets; is_cut = true }; has_value = o.has_value })
object_cut o base was_cut number stands = record { within = stands.within; cut = λ _. refl; is_begun = λ e. absurd (false≢true (sym e)) }

-- ---- the beginning

begun_text : (number : Option ℕ) → texts false (begun_tokens number) ≡ begun number ++ []
unfolding texts escaped
begun_text None = refl
begun_text (Some number) = refl

begun_ends : (number : Option ℕ) → WillEndNumber number (after false (begun_tokens number)) []
unfolding after
begun_ends None = tt
begun_ends (Some number) = refl

pub new_object : (page : PageValue) (number : Option ℕ) {new : ObjectValue} → Writes (record { page = page; has_value = false }) new (begun_tokens number) → IsObjectBehind (length page.octets) page.is_cut number new
new_object page number {new} w =
    let xs = texts false (begun_tokens number) in
    let base = length page.octets in
    record {
      within = still_within base xs w.put (omega arith);
      cut = still_cut xs page.is_cut w.put (λ e. e);
      is_begun = λ open_still. record {
        rest = [];
        in_line = refl;
        apart = let Q : Bool → Type 0 = λ b. WillEndNumber number b [] in subst Q (sym w.place) (begun_ends number);
        begins = behind_put base xs w.put (omega arith) open_still ∙ ap (λ (l : List ℕ). l ++ xs) (drop_all base page.octets (omega arith)) ∙ begun_text number;
      };
    }

pub new_value : (page : PageValue) (number : Option ℕ) {new : ObjectValue} → Writes (record { page = page; has_value = false }) new (begun_tokens number)
    → object_value (length page.octets) page.is_cut number new ≡ record { front = page; form = Json; number = number }
new_value page number {new} w =
    ap (λ (l : List ℕ). record { front = record { octets = l; is_cut = page.is_cut }; form = Json; number = number })
    (front_stays (length page.octets) (texts false (begun_tokens number)) w.put (omega arith) ∙ take_all (length page.octets) page.octets (omega arith))

-- ---- the end

has_ended : (number : Option ℕ) (has_value : Bool) (rest : List ℕ) → WillEndNumber number has_value rest → EndsNumber number rest
has_ended None has_value rest will = tt
has_ended (Some number) has_value [] will = tt
has_ended (Some number) has_value (x ∷ rest) will = will

pub object_ends : {old : ObjectValue} {new : PageValue} (base : ℕ) (was_cut : Bool) (number : Option ℕ) (answer : AnswerValue) → Puts old.page new (10 ∷ []) → IsObjectBehind base was_cut number old
    → object_value base was_cut number old ≡ answer → Ends answer new
object_ends {old} {new} base was_cut number answer p stands is =
    let P : AnswerValue → Type 0 = λ a. Ends a new in
    subst P is (record {
      added = drop base new.octets;
      behind = sym (take-append-drop base new.octets) ∙ ap (λ (l : List ℕ). l ++ drop base new.octets) (front_stays base (10 ∷ []) p stands.within);
      whole = λ open_still.
          let text = stands.is_begun (was_whole (10 ∷ []) p open_still) in
          record {
            rest = text.rest;
            in_line = text.in_line;
            apart = has_ended number old.has_value text.rest text.apart;
            one_line = behind_put base (10 ∷ []) p stands.within open_still ∙ ap (λ (l : List ℕ). l ++ 10 ∷ []) text.begins;
          };
      cut = still_cut (10 ∷ []) was_cut p stands.cut;
    })

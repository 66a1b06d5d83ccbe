-- How a line is handed on, by what its octets are.
use Rattle.std.proofs.Common.{◌≡◌, ℕ, true, false, List, Some, OnOk, Result, Ok, Err, sym, refl, subst}
use Rattle.std.specs.Prelude.{MatchBool}
use Rattle.std.specs.Str.{IsTrimAscii}
use Rattle.sms_page.specs.Page.{PageValue}
use Rattle.sms_feed.specs.Takers.{Takes, Hands}
use Rattle.sms_feed.specs.Units.{is_nothing}

pub hands_unit : {T : Type 0} (takes : Takes T) (old new : T) (n : ℕ) (line unit : List ℕ) (page page_then : PageValue)
    → IsTrimAscii line unit → is_nothing unit ≡ false → takes old n (Some unit) page new page_then → Hands takes old n (Some line) page new page_then
hands_unit takes old new n line unit page page_then trim nothing took =
    (unit, trim, subst (λ b. MatchBool b ((new ≡ old) × (page_then ≡ page)) (takes old n (Some unit) page new page_then)) (sym nothing) took)

pub hands_nothing : {T : Type 0} (takes : Takes T) (old : T) (n : ℕ) (line unit : List ℕ) (page : PageValue)
    → IsTrimAscii line unit → is_nothing unit ≡ true → Hands takes old n (Some line) page old page
hands_nothing takes old n line unit page trim nothing =
    (unit, trim, subst (λ b. MatchBool b ((old ≡ old) × (page ≡ page)) (takes old n (Some unit) page old page)) (sym nothing) (refl, refl))

pub on_ok : {A E : Type 0} (r : Result A E) (P Q : Type 0) → (P → Q) → OnOk r P → OnOk r Q
on_ok (Ok a) P Q f p = f p
on_ok (Err e) P Q f p = p

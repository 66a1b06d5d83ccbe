-- How what stands on a page changes where something is put behind it.
use Rattle.std.proofs.Common.{◌≡◌, ℕ, ◌+◌, ◌<◌, ◌≤◌, Bool, true, false, List, [], ◌∷◌, ◌++◌, length, take, drop, refl, ap, sym, subst, ◌∙◌, arith, ⊎_elim, length-append, length-drop}
use Rattle.std.specs.List.{list_all}
use Rattle.std.proofs.lemmas.Bool.{cases_Bool, false≢true}
use Rattle.std.proofs.lemmas.List.{take_all, take-append-le, drop-append-le, append-nil, take-append-drop, drop_all}
use Rattle.sms_page.specs.Page.{PageValue, Puts}
use Rattle.sms_answer.specs.Text.{IsInLine, is_in_line}
use Rattle.sms_answer.specs.Inside.Writing.{IsLineBehind}
use Rattle.sms_answer.proofs.InLine.{all-append}

-- a page that is not cut was not cut before
pub was_whole : {old new : PageValue} (xs : List ℕ) → Puts old new xs → new.is_cut ≡ false → old.is_cut ≡ false
was_whole {old} {new} xs p open_still = ⊎_elim (λ cut. absurd (false≢true (sym open_still ∙ (p.cut cut).1))) (λ e. e) (cases_Bool old.is_cut)

-- and all was put
pub all_put : {old new : PageValue} (xs : List ℕ) → Puts old new xs → new.is_cut ≡ false → new.octets ≡ old.octets ++ xs
all_put {old} {new} xs p open_still =
    p.added ∙ ap (λ (n : ℕ). old.octets ++ take n xs) (p.all open_still) ∙ ap (λ (l : List ℕ). old.octets ++ l) (take_all (length xs) xs (omega arith))

-- the front stays
pub front_stays : {old new : PageValue} (from : ℕ) (xs : List ℕ) → Puts old new xs → from ≤ length old.octets → take from new.octets ≡ take from old.octets
front_stays {old} {new} from xs p within = ap (take from) p.added ∙ take-append-le from old.octets (take p.count xs) within

pub still_within : {old new : PageValue} (from : ℕ) (xs : List ℕ) → Puts old new xs → from ≤ length old.octets → from ≤ length new.octets
still_within {old} {new} from xs p within = omega (arith, within, ap length p.added, length-append old.octets (take p.count xs))

-- what stands behind it
pub behind_put : {old new : PageValue} (from : ℕ) (xs : List ℕ) → Puts old new xs → from ≤ length old.octets → new.is_cut ≡ false → drop from new.octets ≡ drop from old.octets ++ xs
behind_put {old} {new} from xs p within open_still = ap (drop from) (all_put xs p open_still) ∙ drop-append-le from old.octets xs within

pub still_cut : {old new : PageValue} (xs : List ℕ) (was_cut : Bool) → Puts old new xs → (was_cut ≡ true → old.is_cut ≡ true) → was_cut ≡ true → new.is_cut ≡ true
still_cut {old} {new} xs was_cut p cut e = (p.cut (cut e)).1

-- ---- a line

-- the page in front of a line
abbrev pub before : ℕ → Bool → PageValue → PageValue
before from was_cut page = record { octets = take from page.octets; is_cut = was_cut }

pub line_stays : {old new : PageValue} (from : ℕ) (was_cut : Bool) (xs : List ℕ) → Puts old new xs → IsInLine xs → IsLineBehind from was_cut old → IsLineBehind from was_cut new
line_stays {old} {new} from was_cut xs p in_line stands = record {
  within = still_within from xs p stands.within;
  in_line = λ open_still.
      ap (list_all is_in_line) (behind_put from xs p stands.within open_still)
      ∙ all-append is_in_line (drop from old.octets) xs (stands.in_line (was_whole xs p open_still)) in_line;
  cut = still_cut xs was_cut p stands.cut;
}

pub before_stays : {old new : PageValue} (from : ℕ) (was_cut : Bool) (xs : List ℕ) (front : PageValue) → Puts old new xs → IsLineBehind from was_cut old → before from was_cut old ≡ front → before from was_cut new ≡ front
before_stays {old} {new} from was_cut xs front p stands is =
    ap (λ (l : List ℕ). record { octets = l; is_cut = was_cut }) (front_stays from xs p stands.within) ∙ is

-- memory runs out
pub line_cut : (page : PageValue) (from : ℕ) (was_cut : Bool) → IsLineBehind from was_cut page → IsLineBehind from was_cut (record { octets = page.octets; is_cut = true })
line_cut page from was_cut stands = record { within = stands.within; in_line = λ e. absurd (false≢true (sym e)); cut = λ _. refl }

-- a new line
pub new_line : (page : PageValue) → IsLineBehind (length page.octets) page.is_cut page
new_line page = record {
  within = omega arith;
  in_line = λ _. ap (list_all is_in_line) (drop_all (length page.octets) page.octets (omega arith));
  cut = λ e. e;
}

pub new_line_is : (page : PageValue) → before (length page.octets) page.is_cut page ≡ page
new_line_is page = ap (λ (l : List ℕ). record { octets = l; is_cut = page.is_cut }) (take_all (length page.octets) page.octets (omega arith))

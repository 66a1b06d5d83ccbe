-- Lines that end, and lines behind lines.
use Rattle.std.proofs.Common.{◌≡◌, ℕ, ◌+◌, ◌<◌, ◌≤◌, Bool, true, false, List, [], ◌∷◌, ◌++◌, length, take, drop, Option, flat_map, refl, ap, sym, subst, ◌∙◌, arith, length-append, length-drop, append_assoc}
use Rattle.std.proofs.lemmas.List.{take_all, take-append-le, drop-append-le, append-nil, take-append-drop, drop_all}
use Rattle.sms_page.specs.Page.{PageValue, Puts}
use Rattle.sms_told.specs.declared.form.Form.TheVariants.{Plain}
use Rattle.sms_answer.specs.Text.{IsInLine, AreLines, AreWholeLines, ended}
use Rattle.sms_answer.specs.Answer.{AnswerValue, Ends}
use Rattle.sms_answer.specs.Inside.Writing.{IsLineBehind, GrowsByLines, EndsLines, AreLinesBehind}
use Rattle.sms_answer.proofs.Standing.{was_whole, front_stays, behind_put, still_cut, before}

no_lines : AreWholeLines []
no_lines = record { lines = []; are_lines = tt; each_ended = refl }

one_line : (line : List ℕ) → 0 < length line → IsInLine line → AreWholeLines (ended line)
one_line line some in_line = record { lines = line ∷ []; are_lines = (some, in_line, tt); each_ended = sym (append-nil (ended line)) }

pub grows_by_none : (front : PageValue) → GrowsByLines front front
grows_by_none front = record { added = []; behind = sym (append-nil front.octets); whole = no_lines; cut = refl }

-- a line that ends, where anything stands on it
ended_line : {old new : PageValue} (from : ℕ) (was_cut : Bool) → Puts old new (10 ∷ []) → from < length old.octets → IsLineBehind from was_cut old → new.is_cut ≡ false → AreWholeLines (drop from new.octets)
ended_line {old} {new} from was_cut p some stands open_still =
    let P : List ℕ → Type 0 = λ l. AreWholeLines l in
    subst P (sym (behind_put from (10 ∷ []) p stands.within open_still))
    (one_line (drop from old.octets) (omega (arith, some, length-drop from old.octets)) (stands.in_line (was_whole (10 ∷ []) p open_still)))

split_new : {old new : PageValue} (from : ℕ) → Puts old new (10 ∷ []) → from ≤ length old.octets → new.octets ≡ take from old.octets ++ drop from new.octets
split_new {old} {new} from p within =
    sym (take-append-drop from new.octets) ∙ ap (λ (l : List ℕ). l ++ drop from new.octets) (front_stays from (10 ∷ []) p within)

pub grows_by_one : {old new : PageValue} (from : ℕ) (was_cut : Bool) (front : PageValue) → Puts old new (10 ∷ []) → from < length old.octets → IsLineBehind from was_cut old → before from was_cut old ≡ front → new.is_cut ≡ false
    → GrowsByLines front (before (length new.octets) was_cut new)
grows_by_one {old} {new} from was_cut front p some stands is open_still =
    let P : PageValue → Type 0 = λ v. GrowsByLines v (before (length new.octets) was_cut new) in
    subst P is (record {
      added = drop from new.octets;
      behind = take_all (length new.octets) new.octets (omega arith) ∙ split_new from p stands.within;
      whole = ended_line from was_cut p some stands open_still;
      cut = refl;
    })

pub ends_with_one : {old new : PageValue} (from : ℕ) (was_cut : Bool) (front : PageValue) → Puts old new (10 ∷ []) → from < length old.octets → IsLineBehind from was_cut old → before from was_cut old ≡ front → EndsLines front new
ends_with_one {old} {new} from was_cut front p some stands is =
    let P : PageValue → Type 0 = λ v. EndsLines v new in
    subst P is (record {
      added = drop from new.octets;
      behind = split_new from p stands.within;
      whole = ended_line from was_cut p some stands;
      cut = still_cut (10 ∷ []) was_cut p stands.cut;
    })

-- nothing stands on the line
pub ends_with_none : (page : PageValue) (from : ℕ) (was_cut : Bool) (front : PageValue) → length page.octets ≤ from → IsLineBehind from was_cut page → before from was_cut page ≡ front → EndsLines front page
ends_with_none page from was_cut front none stands is =
    let P : PageValue → Type 0 = λ v. EndsLines v page in
    subst P is (record {
      added = [];
      behind = sym (take_all from page.octets none) ∙ sym (append-nil (take from page.octets));
      whole = λ _. no_lines;
      cut = stands.cut;
    })

-- ---- lines behind lines

lines-append : (xs ys : List (List ℕ)) → AreLines xs → AreLines ys → AreLines (xs ++ ys)
lines-append [] ys a b = b
lines-append (x ∷ xs) ys a b = (a.0, a.1, lines-append xs ys a.2 b)

ended-append : (xs ys : List (List ℕ)) → flat_map ended (xs ++ ys) ≡ flat_map ended xs ++ flat_map ended ys
ended-append [] ys = refl
ended-append (x ∷ xs) ys = ap (λ (l : List ℕ). ended x ++ l) (ended-append xs ys) ∙ sym (append_assoc (ended x) (flat_map ended xs) (flat_map ended ys))

whole-append : (xs ys : List ℕ) → AreWholeLines xs → AreWholeLines ys → AreWholeLines (xs ++ ys)
whole-append xs ys a b = record {
  lines = a.lines ++ b.lines;
  are_lines = lines-append a.lines b.lines a.are_lines b.are_lines;
  each_ended = ap (λ (l : List ℕ). l ++ ys) a.each_ended ∙ ap (λ (l : List ℕ). flat_map ended a.lines ++ l) b.each_ended ∙ sym (ended-append a.lines b.lines);
}

-- ---- rows

-- the answer whose lines stand behind so many octets
abbrev pub rows_value : ℕ → Option ℕ → PageValue → AnswerValue
rows_value base number line = record { front = before base line.is_cut line; form = Plain; number = number }

pub new_rows : (page : PageValue) → AreLinesBehind (length page.octets) page.octets
new_rows page = let P : List ℕ → Type 0 = λ l. AreWholeLines l in record {
  within = omega arith;
  whole = subst P (sym (drop_all (length page.octets) page.octets (omega arith))) no_lines;
}

pub new_rows_value : (page : PageValue) (number : Option ℕ) → rows_value (length page.octets) number page ≡ record { front = page; form = Plain; number = number }
new_rows_value page number =
    ap (λ (l : List ℕ). record { front = record { octets = l; is_cut = page.is_cut }; form = Plain; number = number }) (take_all (length page.octets) page.octets (omega arith))

pub rows_grow : (base : ℕ) {old new : PageValue} → GrowsByLines old new → AreLinesBehind base old.octets → AreLinesBehind base new.octets
rows_grow base {old} {new} grows stand =
    let P : List ℕ → Type 0 = λ l. AreWholeLines l in
    record {
      within = omega (arith, stand.within, ap length grows.behind, length-append old.octets grows.added);
      whole = subst P (sym (ap (drop base) grows.behind ∙ drop-append-le base old.octets grows.added stand.within)) (whole-append (drop base old.octets) grows.added stand.whole grows.whole);
    }

pub rows_stay : (base : ℕ) (number : Option ℕ) {old new : PageValue} → GrowsByLines old new → AreLinesBehind base old.octets → rows_value base number new ≡ rows_value base number old
rows_stay base number {old} {new} grows stand =
    ap (λ (b : Bool). record { front = record { octets = take base new.octets; is_cut = b }; form = Plain; number = number }) grows.cut
    ∙ ap (λ (l : List ℕ). record { front = record { octets = l; is_cut = old.is_cut }; form = Plain; number = number }) (ap (take base) grows.behind ∙ take-append-le base old.octets grows.added stand.within)

pub rows_end : (base : ℕ) (number : Option ℕ) (answer : AnswerValue) {line page : PageValue} → EndsLines line page → AreLinesBehind base line.octets → rows_value base number line ≡ answer → Ends answer page
rows_end base number answer {line} {page} ends stand is =
    let P : AnswerValue → Type 0 = λ a. Ends a page in
    subst P is (record {
      added = drop base line.octets ++ ends.added;
      behind = ends.behind ∙ ap (λ (l : List ℕ). l ++ ends.added) (sym (take-append-drop base line.octets)) ∙ append_assoc (take base line.octets) (drop base line.octets) ends.added;
      whole = λ open_still. whole-append (drop base line.octets) ends.added stand.whole (ends.whole open_still);
      cut = ends.cut;
    })

-- a line alone
pub line_ends : (number : Option ℕ) {front page : PageValue} → EndsLines front page → Ends (record { front = front; form = Plain; number = number }) page
line_ends number ends = record { added = ends.added; behind = ends.behind; whole = ends.whole; cut = ends.cut }

pub nothing_ends : (number : Option ℕ) (page : PageValue) → Ends (record { front = page; form = Plain; number = number }) page
nothing_ends number page = record { added = []; behind = sym (append-nil page.octets); whole = λ _. no_lines; cut = λ e. e }

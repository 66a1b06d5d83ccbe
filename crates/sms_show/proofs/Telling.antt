-- What lines that are handed on are told as, on the whole.
use Rattle.std.proofs.Common.{◌≡◌, ◌⊎◌, inl, inr, ℕ, Bool, true, false, not, ◌||◌, List, [], ◌∷◌, ◌++◌, length, take, Option, None, Some, refl, sym, ap, subst, ◌∙◌, append_assoc, append-nil}
use Rattle.std.specs.Prelude.{MatchBool}
use Rattle.std.proofs.lemmas.Bool.{false≢true}
use Rattle.std.proofs.Math.Seq.{take-append_seam, take-length}
use Rattle.std.specs.Io.KnownBytes.{Appends, Keeps, append_known}
use Rattle.sms_page.specs.Page.{PageValue, Puts, maybe}
use Rattle.sms_told.specs.declared.form.Form.{Form}
use Rattle.sms_feed.specs.Lines.{few, next_number}
use Rattle.sms_feed.specs.Shown.{shown}
use Rattle.sms_feed.specs.Units.{is_nothing}
use Rattle.sms_feed.specs.Takers.{Takes, Ends, Hands, HandsOnce, HandsAgain, HandsOne, HandsAll, HandsToEnd, HandsToOutput, Standing, standing}
use Rattle.sms_answer.specs.Answer.{Ends as EndsAnswer}
use Rattle.sms_show.specs.Showing.{gap, ShowingValue, ShowsLine, TellsLine, TellsLines, HasNoUnit, HasUnit}

abbrev pub shows : Takes ShowingValue
shows = λ old number line page new page_then. ShowsLine old number page new page_then

abbrev pub stops : Ends ShowingValue
stops = λ old page new page_then. (new ≡ old) × (page_then ≡ page)

-- what is shown grows with the page
grows : (written : Option (List ℕ)) (page page_then : PageValue) (text : List ℕ) → page_then.octets ≡ page.octets ++ text → Appends (shown written page) (shown written page_then) text
grows None page page_then text e = tt
grows (Some xs) page page_then text e = ap (λ (l : List ℕ). xs ++ l) e ∙ sym (append_assoc xs page.octets text)

keeps_appends : (a b c : Option (List ℕ)) (text : List ℕ) → Keeps a b → Appends b c text → Appends a c text
keeps_appends None b c text k h = tt
keeps_appends (Some xs) None c text k h = absurd k
keeps_appends (Some xs) (Some ys) None text k h = absurd h
keeps_appends (Some xs) (Some ys) (Some zs) text k h = h ∙ ap (λ (l : List ℕ). l ++ text) k

appends_keeps : (a b c : Option (List ℕ)) (text : List ℕ) → Appends a b text → Keeps b c → Appends a c text
appends_keeps None b c text h k = tt
appends_keeps (Some xs) None c text h k = absurd h
appends_keeps (Some xs) (Some ys) None text h k = absurd k
appends_keeps (Some xs) (Some ys) (Some zs) text h k = k ∙ h

appends_appends : (a b c : Option (List ℕ)) (text rest : List ℕ) → Appends a b text → Appends b c rest → Appends a c (text ++ rest)
appends_appends None b c text rest h k = tt
appends_appends (Some xs) None c text rest h k = absurd h
appends_appends (Some xs) (Some ys) None text rest h k = absurd k
appends_appends (Some xs) (Some ys) (Some zs) text rest h k = k ∙ ap (λ (l : List ℕ). l ++ rest) h ∙ append_assoc xs text rest

or_true : (b : Bool) → (b || true) ≡ true
or_true true = refl
or_true false = refl

or_false : (b : Bool) → (b || false) ≡ b
or_false true = refl
or_false false = refl

-- what is not cut in the end was not cut before
whole_before : (a b : Bool) → (a ≡ true → b ≡ true) → b ≡ false → a ≡ false
whole_before true b h e = absurd (false≢true (sym e ∙ h refl))
whole_before false b h e = refl

-- how the taker stands after a line and what was told of it
abbrev Goes : ShowingValue → ℕ → Option (List ℕ) → ShowingValue → List ℕ → Type 0
Goes old n line new text =
    (HasNoUnit line × (text ≡ []) × (new ≡ old))
    ⊎ (HasUnit line × TellsLine old.form old.has_begun n text × (new.form ≡ old.form) × (new.has_begun ≡ true))

record Gone (old : ShowingValue) (n : ℕ) (line : Option (List ℕ)) (page : PageValue) (new : ShowingValue) (page_then : PageValue) : Type 0 where
  text : List ℕ
  behind : page_then.octets ≡ page.octets ++ text
  was_whole : page.is_cut ≡ false
  goes : Goes old n line new text

shows_gone : (old : ShowingValue) (n : ℕ) (line : Option (List ℕ)) (page : PageValue) (new : ShowingValue) (page_then : PageValue) → HasUnit line → ShowsLine old n page new page_then → page_then.is_cut ≡ false → Gone old n line page new page_then
shows_gone old n line page new page_then has h e = record {
  text = h.told;
  behind = h.behind;
  was_whole = whole_before page.is_cut page_then.is_cut h.cut e;
  goes = inr (has, h.whole e, h.form, h.has_begun ∙ ap (λ (b : Bool). old.has_begun || not b) e ∙ or_true old.has_begun);
}

hands_gone : (old : ShowingValue) (n : ℕ) (line : Option (List ℕ)) (page : PageValue) (new : ShowingValue) (page_then : PageValue) → Hands shows old n line page new page_then → page_then.is_cut ≡ false → Gone old n line page new page_then
hands_gone old n None page new page_then h e = shows_gone old n None page new page_then tt h e
hands_gone old n (Some line) page new page_then h e = by_test (is_nothing h.0) refl h.2
  where
    by_test : (b : Bool) → is_nothing h.0 ≡ b → MatchBool b ((new ≡ old) × (page_then ≡ page)) (ShowsLine old n page new page_then) → Gone old n (Some line) page new page_then
    by_test true is same = record {
      text = [];
      behind = ap (λ (p : PageValue). p.octets) same.1 ∙ sym (append-nil page.octets);
      was_whole = sym (ap (λ (p : PageValue). p.is_cut) same.1) ∙ e;
      goes = inl ((h.0, h.1, is), refl, same.0);
    }
    by_test false is told = shows_gone old n (Some line) page new page_then (h.0, h.1, is) told e

-- a line that is handed on, whatever is written before and after it
record Told (old : Standing ShowingValue) (n : ℕ) (line : Option (List ℕ)) (new : Standing ShowingValue) : Type 0 where
  text : List ℕ
  appends : Appends (shown old.written old.page) (shown new.written new.page) text
  was_whole : old.page.is_cut ≡ false
  goes : Goes old.taker n line new.taker text

once_told : (old : Standing ShowingValue) (n : ℕ) (line : Option (List ℕ)) (new : Standing ShowingValue) → HandsOnce shows old n line new → new.page.is_cut ≡ false → Told old n line new
once_told old n line new h e =
    let gone : Gone old.taker n line h.page new.taker h.page_then = hands_gone old.taker n line h.page new.taker h.page_then h.hands (sym h.after.cut ∙ e) in
    record {
      text = gone.text;
      appends = keeps_appends (shown old.written old.page) (shown h.written h.page) (shown new.written new.page) gone.text h.before.octets
          (appends_keeps (shown h.written h.page) (shown h.written h.page_then) (shown new.written new.page) gone.text (grows h.written h.page h.page_then gone.text gone.behind) h.after.octets);
      was_whole = sym h.before.cut ∙ gone.was_whole;
      goes = gone.goes;
    }

abbrev standing_so : Form → Bool → ShowingValue
standing_so form has_begun = record { form = form; has_begun = has_begun }

same_value : (a b : ShowingValue) → a.form ≡ b.form → a.has_begun ≡ b.has_begun → a ≡ b
same_value a b form begun = ap (λ (f : Form). standing_so f a.has_begun) form ∙ ap (λ (h : Bool). standing_so b.form h) begun

-- where memory ran out, the taker stands as before, and the page can go back to where it was
record Lost (old : ShowingValue) (page : PageValue) (between : ShowingValue) (lost : PageValue) : Type 0 where
  same : between ≡ old
  front : take (length page.octets) lost.octets ≡ page.octets

shows_lost : (old : ShowingValue) (n : ℕ) (page : PageValue) (between : ShowingValue) (lost : PageValue) → ShowsLine old n page between lost → lost.is_cut ≡ true → Lost old page between lost
shows_lost old n page between lost h e = record {
  same = same_value between old h.form (h.has_begun ∙ ap (λ (b : Bool). old.has_begun || not b) e ∙ or_false old.has_begun);
  front = ap (λ (l : List ℕ). take (length page.octets) l) h.behind ∙ take-append_seam page.octets h.told;
}

hands_lost : (old : ShowingValue) (n : ℕ) (line : Option (List ℕ)) (page : PageValue) (between : ShowingValue) (lost : PageValue) → Hands shows old n line page between lost → lost.is_cut ≡ true → Lost old page between lost
hands_lost old n None page between lost h e = shows_lost old n page between lost h e
hands_lost old n (Some line) page between lost h e = by_test (is_nothing h.0) h.2
  where
    by_test : (b : Bool) → MatchBool b ((between ≡ old) × (lost ≡ page)) (ShowsLine old n page between lost) → Lost old page between lost
    by_test true same = record {
      same = same.0;
      front = ap (λ (p : PageValue). take (length page.octets) p.octets) same.1 ∙ take-length page.octets;
    }
    by_test false told = shows_lost old n page between lost told e

again_told : (old : Standing ShowingValue) (n : ℕ) (line : Option (List ℕ)) (new : Standing ShowingValue) → HandsAgain shows old n line new → new.page.is_cut ≡ false → Told old n line new
again_told old n line new h e =
    let back : PageValue = record { octets = take (length h.page.octets) h.lost.octets; is_cut = false } in
    let from : Standing ShowingValue = standing h.between h.written back in
    let lost : Lost old.taker h.page h.between h.lost = hands_lost old.taker n line h.page h.between h.lost h.hands h.cut in
    let told : Told from n line new = once_told from n line new h.second e in
    record {
      text = told.text;
      appends = keeps_appends (shown old.written old.page) (shown h.written h.page) (shown new.written new.page) told.text h.before.octets
          (subst (λ (s : Option (List ℕ)). Appends s (shown new.written new.page) told.text) (ap (λ (l : List ℕ). append_known h.written l) lost.front) told.appends);
      was_whole = sym h.before.cut ∙ h.was_whole;
      goes = subst (λ (t : ShowingValue). Goes t n line new.taker told.text) lost.same told.goes;
    }

one_told : (old : Standing ShowingValue) (n : ℕ) (line : Option (List ℕ)) (new : Standing ShowingValue) → HandsOne shows old n line new → new.page.is_cut ≡ false → Told old n line new
one_told old n line new (inl h) e = once_told old n line new h e
one_told old n line new (inr h) e = again_told old n line new h e

-- all these lines are told so
record AllTold (old : Standing ShowingValue) (n : ℕ) (lines : List (List ℕ)) (new : Standing ShowingValue) : Type 0 where
  text : List ℕ
  tells : TellsLines old.taker.form old.taker.has_begun n lines text
  appends : Appends (shown old.written old.page) (shown new.written new.page) text
  was_whole : old.page.is_cut ≡ false

-- what is told of a line stands before what is told of the rest
tells_more : (old new : ShowingValue) (n : ℕ) (line : List ℕ) (lines : List (List ℕ)) (text rest : List ℕ) → Goes old (next_number n) (few line) new text → TellsLines new.form new.has_begun (next_number n) lines rest
    → TellsLines old.form old.has_begun n (line ∷ lines) (text ++ rest)
tells_more old new n line lines text rest (inl (has, none, same)) tells =
    inl (
      has,
      subst (λ (l : List ℕ). TellsLines old.form old.has_begun (next_number n) lines (l ++ rest)) (sym none)
          (subst (λ (t : ShowingValue). TellsLines t.form t.has_begun (next_number n) lines rest) same tells),
    )
tells_more old new n line lines text rest (inr (has, told, form, begun)) tells =
    let more : TellsLines old.form true (next_number n) lines rest =
    subst (λ (b : Bool). TellsLines old.form b (next_number n) lines rest) begun (subst (λ (f : Form). TellsLines f new.has_begun (next_number n) lines rest) form tells) in
    inr (has, (text, rest, refl, told, more))

all_told : (old : Standing ShowingValue) (n : ℕ) (lines : List (List ℕ)) (new : Standing ShowingValue) → HandsAll shows old n lines new → new.page.is_cut ≡ false → AllTold old n lines new
all_told old n [] new h e = record {
  text = [];
  tells = refl;
  appends = keeps_nothing (shown old.written old.page) (shown new.written new.page) h.1.octets;
  was_whole = sym h.1.cut ∙ e;
}
  where
    keeps_nothing : (a b : Option (List ℕ)) → Keeps a b → Appends a b []
    keeps_nothing None b k = tt
    keeps_nothing (Some xs) None k = absurd k
    keeps_nothing (Some xs) (Some ys) k = k ∙ sym (append-nil xs)
all_told old n (line ∷ lines) new h e =
    let rest : AllTold h.0 (next_number n) lines new = all_told h.0 (next_number n) lines new h.2 e in
    let first : Told old (next_number n) (few line) h.0 = one_told old (next_number n) (few line) h.0 h.1 rest.was_whole in
    record {
      text = first.text ++ rest.text;
      tells = tells_more old.taker h.0.taker n line lines first.text rest.text first.goes rest.tells;
      appends = appends_appends (shown old.written old.page) (shown h.0.written h.0.page) (shown new.written new.page) first.text rest.text first.appends rest.appends;
      was_whole = first.was_whole;
    }

-- what stands on an empty page, and what is written whole
nothing_shown : (written : Option (List ℕ)) (page : PageValue) → page.octets ≡ [] → Keeps written (shown written page)
nothing_shown None page e = tt
nothing_shown (Some xs) page e = ap (λ (l : List ℕ). xs ++ l) e ∙ append-nil xs

written_whole : (written written_then : Option (List ℕ)) (page : PageValue) → Appends written written_then page.octets → Keeps (shown written page) written_then
written_whole None written_then page h = tt
written_whole (Some xs) None page h = h
written_whole (Some xs) (Some ys) page h = h

-- All that is written of lines that are handed on to the output is what is told of them.
pub tells_all : (old new : ShowingValue) (written : Option (List ℕ)) (lines : List (List ℕ)) (written_then : Option (List ℕ)) → HandsToOutput shows stops old written lines new written_then
    → (text : List ℕ) × TellsLines old.form old.has_begun 0 lines text × Appends written written_then text
tells_all old new written lines written_then h =
    let empty : PageValue = record { octets = []; is_cut = false } in
    let before : Standing ShowingValue = h.hands.last in
    let page : h.last.page ≡ before.page = h.hands.at_last.1 in
    let told : AllTold (standing old written empty) 0 lines before = all_told (standing old written empty) 0 lines before h.hands.hands (sym (ap (λ (p : PageValue). p.is_cut) page) ∙ h.whole) in
    let end : Keeps (shown h.last.written h.last.page) written_then = written_whole h.last.written written_then h.last.page h.rest in
    let end_before : Keeps (shown before.written before.page) written_then =
    subst (λ (p : PageValue). Keeps (shown before.written p) written_then) page (subst (λ (w : Option (List ℕ)). Keeps (shown w h.last.page) written_then) h.hands.written end) in (
      told.text,
      told.tells,
      appends_keeps written (shown before.written before.page) written_then told.text
          (keeps_appends written (shown written empty) (shown before.written before.page) told.text (nothing_shown written empty refl) told.appends) end_before,
    )

-- a gap and an answer are what is told of a line
pub shows_line : (old new : ShowingValue) (number : ℕ) (is_due : Bool) (page behind page_then : PageValue) → Puts page behind (maybe is_due 10) → maybe is_due 10 ≡ gap old.form old.has_begun → EndsAnswer (record { front = behind; form = old.form; number = Some number }) page_then
    → new.form ≡ old.form → new.has_begun ≡ (old.has_begun || not page_then.is_cut) → ShowsLine old number page new page_then
shows_line old new number is_due page behind page_then puts due ends form begun = record {
  told = take puts.count (maybe is_due 10) ++ ends.added;
  behind = ends.behind ∙ ap (λ (l : List ℕ). l ++ ends.added) puts.added ∙ append_assoc page.octets (take puts.count (maybe is_due 10)) ends.added;
  cut = λ e. ends.cut (puts.cut e).1;
  whole = λ e. record {
    answer = ends.added;
    is_answer = ends.whole e;
    whole = ap (λ (n : ℕ). take n (maybe is_due 10) ++ ends.added) (puts.all (whole_before behind.is_cut page_then.is_cut ends.cut e))
        ∙ ap (λ (l : List ℕ). l ++ ends.added) (take-length (maybe is_due 10) ∙ due);
  };
  form = form;
  has_begun = begun;
}

-- Lines that are handed on one after another.
use Rattle.std.proofs.Common.{◌≡◌, ℕ, Bool, true, false, List, [], ◌∷◌, ◌++◌, Option, Some, Ok, sym, refl, ◌∙◌, ap, subst, append-nil, append_assoc}
use Rattle.std.specs.Io.KnownBytes.{Appends}
use Rattle.sms_script.specs.Lines.{lines}
use Rattle.sms_page.specs.Page.{PageValue}
use Rattle.sms_feed.specs.Feed.{FeedValue, Awaits}
use Rattle.sms_feed.specs.Lines.{few, next_number}
use Rattle.sms_feed.specs.Next.{GoesOn, StandsAtFirst, number_then}
use Rattle.sms_feed.specs.Shown.{Stays}
use Rattle.sms_feed.specs.Takers.{Takes, Ends, HandsOne, HandsAll, HandsToEnd, HandsToOutput, Standing, standing}
use Rattle.sms_feed.proofs.HandedOn.{one_after}
use Rattle.sms_feed.proofs.Staying.{stays_same, stays_then}

-- the number of the last of these lines
abbrev pub number_after : ℕ → List (List ℕ) → ℕ
number_after n [] = n
number_after n (line ∷ lines) = number_after (next_number n) lines

number_of_one_more : (n : ℕ) (done : List (List ℕ)) (line : List ℕ) → number_after n (done ++ line ∷ []) ≡ next_number (number_after n done)
number_of_one_more n [] line = refl
number_of_one_more n (x ∷ done) line = number_of_one_more (next_number n) done line

-- what is written behind them
pub all_then : {T : Type 0} (takes : Takes T) (old : Standing T) (n : ℕ) (done : List (List ℕ)) (taker : T) (w2 : Option (List ℕ)) (p2 : PageValue) (w3 : Option (List ℕ)) (p3 : PageValue)
    → HandsAll takes old n done (standing taker w2 p2) → Stays w2 p2 w3 p3 → HandsAll takes old n done (standing taker w3 p3)
all_then takes old n [] taker w2 p2 w3 p3 h s = (h.0, stays_then old.written old.page w2 p2 w3 p3 h.1 s)
all_then takes old n (line ∷ done) taker w2 p2 w3 p3 h s = (h.0, h.1, all_then takes h.0 (next_number n) done taker w2 p2 w3 p3 h.2 s)

first_of : {T : Type 0} (takes : Takes T) (old : Standing T) (n : ℕ) (line : Option (List ℕ)) (taker : T) (w : Option (List ℕ)) (p : PageValue) (new : Standing T)
    → taker ≡ old.taker → Stays old.written old.page w p → HandsOne takes (standing taker w p) n line new → HandsOne takes old n line new
first_of takes old n line taker w p new same s h =
    one_after takes old.taker old.written old.page w p n line new s (subst (λ t. HandsOne takes (standing t w p) n line new) same h)

one_more : {T : Type 0} (takes : Takes T) (old : Standing T) (n : ℕ) (done : List (List ℕ)) (line : List ℕ) (mid new : Standing T)
    → HandsAll takes old n done mid → HandsOne takes mid (next_number (number_after n done)) (few line) new → HandsAll takes old n (done ++ line ∷ []) new
one_more takes old n [] line mid new h one =
    (new, first_of takes old (next_number n) (few line) mid.taker mid.written mid.page new h.0 h.1 one, (refl, stays_same new.written new.page))
one_more takes old n (x ∷ done) line mid new h one = (h.0, h.1, one_more takes h.0 (next_number n) done line mid new h.2 one)

-- The first lines of the octets are handed on, and the others come next.
pub record AreDone {T : Type 0} (takes : Takes T) (old : Standing T) (n : ℕ) (octets : List ℕ) (feed : FeedValue) (remaining : Option (List ℕ)) (new : Standing T) : Type 0 where
  pub done : List (List ℕ)
  pub rest : List ℕ
  pub lines_are : lines octets ≡ done ++ lines rest
  pub next : Awaits feed remaining rest
  pub counted : feed.number ≡ number_after n done
  pub hands : HandsAll takes old n done new

pub none_done : {T : Type 0} (takes : Takes T) (old : T) (w : Option (List ℕ)) (p : PageValue) (octets : List ℕ) (feed : FeedValue) (remaining : Option (List ℕ))
    → Awaits feed remaining octets → AreDone takes (standing old w p) feed.number octets feed remaining (standing old w p)
none_done takes old w p octets feed remaining a =
    record { done = []; rest = octets; lines_are = refl; next = a; counted = refl; hands = (refl, stays_same w p) }

-- One more of them is.
pub one_done : {T : Type 0} (takes : Takes T) (old : Standing T) (n : ℕ) (octets : List ℕ) (feed : FeedValue) (remaining : Option (List ℕ)) (taker : T) (w2 : Option (List ℕ)) (p2 : PageValue)
    (w3 : Option (List ℕ)) (p3 : PageValue) (feed_then : FeedValue) (remaining_then : Option (List ℕ)) (new : Standing T)
    (before : AreDone takes old n octets feed remaining (standing taker w2 p2))
    → Stays w2 p2 w3 p3
    → StandsAtFirst before.rest feed_then remaining_then
    → feed_then.number ≡ next_number feed.number
    → HandsOne takes (standing taker w3 p3) feed_then.number feed_then.line new
    → AreDone takes old n octets feed_then remaining_then new
one_done takes old n octets feed remaining taker w2 p2 w3 p3 feed_then remaining_then new before s at number one =
    let number_is : feed_then.number ≡ next_number (number_after n before.done) = number ∙ ap next_number before.counted in
    record {
      done = before.done ++ at.first ∷ [];
      rest = at.rest;
      lines_are = before.lines_are ∙ ap (λ ls. before.done ++ ls) at.is_first ∙ sym (append_assoc before.done (at.first ∷ []) (lines at.rest));
      next = at.behind;
      counted = number_is ∙ sym (number_of_one_more n before.done at.first);
      hands = one_more takes old n before.done at.first (standing taker w3 p3) new (all_then takes old n before.done taker w2 p2 w3 p3 before.hands s)
          (subst (λ l. HandsOne takes (standing taker w3 p3) (next_number (number_after n before.done)) l new) at.line
          (subst (λ m. HandsOne takes (standing taker w3 p3) m feed_then.line new) number_is one));
    }

-- All of them are, and then the taker ends.
pub all_done : {T : Type 0} (takes : Takes T) (ends : Ends T) (old : Standing T) (n : ℕ) (octets : List ℕ) (feed : FeedValue) (remaining : Option (List ℕ)) (taker : T) (w2 : Option (List ℕ)) (p2 : PageValue)
    (w3 : Option (List ℕ)) (p3 : PageValue) (new : T) (p4 : PageValue)
    (before : AreDone takes old n octets feed remaining (standing taker w2 p2))
    → Stays w2 p2 w3 p3 → before.rest ≡ [] → ends taker p3 new p4 → HandsToEnd takes ends old n (lines octets) (standing new w3 p4)
all_done takes ends old n octets feed remaining taker w2 p2 w3 p3 new p4 before s none ended =
    let all : lines octets ≡ before.done = before.lines_are ∙ ap (λ r. before.done ++ lines r) none ∙ append-nil before.done in
    record {
      last = standing taker w3 p3;
      hands = subst (λ ls. HandsAll takes old n ls (standing taker w3 p3)) (sym all) (all_then takes old n before.done taker w2 p2 w3 p3 before.hands s);
      written = refl;
      at_last = ended;
    }

-- where it goes on, by what it says
pub goes_on : (octets : List ℕ) (more : Bool) (feed : FeedValue) (remaining : Option (List ℕ)) → more ≡ true → GoesOn octets (Ok more) feed remaining → StandsAtFirst octets feed remaining
goes_on octets more feed remaining is g = subst (λ b. GoesOn octets (Ok b) feed remaining) is g

pub ends_there : (octets : List ℕ) (more : Bool) (feed : FeedValue) (remaining : Option (List ℕ)) → more ≡ false → GoesOn octets (Ok more) feed remaining → octets ≡ []
ends_there octets more feed remaining is g = let at : GoesOn octets (Ok false) feed remaining = subst (λ b. GoesOn octets (Ok b) feed remaining) is g in at.0

pub next_is : (n : ℕ) (more : Bool) (feed : FeedValue) → more ≡ true → feed.number ≡ number_then n (Ok more) → feed.number ≡ next_number n
next_is n more feed is g = subst (λ b. feed.number ≡ number_then n (Ok b)) is g

-- before the first line
abbrev pub before_all : FeedValue
before_all = record { number = 0; line = Some []; left = []; is_long = false; has_ended = false }

pub awaits_all : (feed : FeedValue) (remaining : Option (List ℕ)) (octets : List ℕ) → feed ≡ before_all → remaining ≡ Some octets → Awaits feed remaining octets
awaits_all feed remaining octets is known = subst (λ f. Awaits f remaining octets) (sym is)
    (record { thrown = []; later = octets; known = known; whole = refl; ended = λ e. absurd cc; none = λ e. refl; long = λ e. absurd cc })

pub to_output : {T : Type 0} (takes : Takes T) (ends : Ends T) (old : T) (w : Option (List ℕ)) (feed : FeedValue) (page : PageValue) (ls : List (List ℕ)) (new : T) (w2 : Option (List ℕ)) (p2 : PageValue) (w3 : Option (List ℕ)) (p3 : PageValue)
    → feed ≡ before_all → page ≡ record { octets = []; is_cut = false } → p3 ≡ record { octets = []; is_cut = false } → Stays w2 p2 w3 p3 → Appends w2 w3 p2.octets
    → HandsToEnd takes ends (standing old w page) feed.number ls (standing new w2 p2) → HandsToOutput takes ends old w ls new w3
to_output takes ends old w feed page ls new w2 p2 w3 p3 first empty left s appends h =
    record {
      last = standing new w2 p2;
      hands = subst (λ f. HandsToEnd takes ends (standing old w (record { octets = []; is_cut = false })) f.number ls (standing new w2 p2)) first
          (subst (λ p. HandsToEnd takes ends (standing old w p) feed.number ls (standing new w2 p2)) empty h);
      taker = refl;
      whole = sym s.cut ∙ ap (λ p. p.is_cut) left;
      rest = appends;
    }

-- Lines that are worked through one after another.
use Rattle.std.proofs.Common.{◌≡◌, inl, inr, ℕ, Bool, true, false, List, [], ◌∷◌, ◌++◌, Option, None, Some, OnErr, OnOk, Result, Ok, Err, sym, refl, ◌∙◌, ap, subst, append-nil, append_assoc}
use Rattle.std.specs.Io.KnownBytes.{Keeps}
use Rattle.sms_script.specs.Lines.{lines}
use Rattle.sms_feed.specs.Feed.{FeedValue, Awaits}
use Rattle.sms_feed.specs.Lines.{few, next_number}
use Rattle.sms_feed.specs.Next.{GoesOn, StandsAtFirst, number_then}
use Rattle.sms_feed.specs.Shown.{shown}
use Rattle.sms_feed.specs.Takers.{Standing}
use Rattle.sms_work.specs.Working.{Does, Ends, Fails, FailsAtEnd, Rests, WorksThrough, WorksToEnd, WorksInPart, number_after}

keeps_same : (known : Option (List ℕ)) → Keeps known known
keeps_same None = tt
keeps_same (Some xs) = refl

keeps_then : (one two three : Option (List ℕ)) → Keeps one two → Keeps two three → Keeps one three
keeps_then None two three a b = tt
keeps_then (Some xs) None three a b = absurd a
keeps_then (Some xs) (Some ys) None a b = absurd b
keeps_then (Some xs) (Some ys) (Some zs) a b = b ∙ a

pub rests_same : {T : Type 0} (s : Standing T) → Rests s s
rests_same s = record { worker = refl; stays = record { octets = keeps_same (shown s.written s.page); cut = refl } }

rests_then : {T : Type 0} (one two three : Standing T) → Rests one two → Rests two three → Rests one three
rests_then one two three a b = record {
  worker = b.worker ∙ a.worker;
  stays = record {
    octets = keeps_then (shown one.written one.page) (shown two.written two.page) (shown three.written three.page) a.stays.octets b.stays.octets;
    cut = b.stays.cut ∙ a.stays.cut;
  };
}

number_of_one_more : (n : ℕ) (done : List (List ℕ)) (line : List ℕ) → number_after n (done ++ line ∷ []) ≡ next_number (number_after n done)
number_of_one_more n [] line = refl
number_of_one_more n (x ∷ done) line = number_of_one_more (next_number n) done line

one_more : {T : Type 0} (does : Does T) (old : Standing T) (n : ℕ) (done : List (List ℕ)) (line : List ℕ) (mid before after : Standing T)
    → WorksThrough does old n done mid → Rests mid before → does before (next_number (number_after n done)) (few line) after → WorksThrough does old n (done ++ line ∷ []) after
one_more does old n [] line mid before after h r one = (before, after, rests_then old mid before h r, one, rests_same after)
one_more does old n (x ∷ done) line mid before after h r one = (h.0, h.1, h.2, h.3, one_more does h.1 (next_number n) done line mid before after h.4 r one)

through_then : {T : Type 0} (does : Does T) (old : Standing T) (n : ℕ) (done : List (List ℕ)) (mid new : Standing T)
    → WorksThrough does old n done mid → Rests mid new → WorksThrough does old n done new
through_then does old n [] mid new h r = rests_then old mid new h r
through_then does old n (x ∷ done) mid new h r = (h.0, h.1, h.2, h.3, through_then does h.1 (next_number n) done mid new h.4 r)

-- The first lines of the octets are worked through, and the others come next.
pub record AreDone {T : Type 0} (does : Does T) (old : Standing T) (n : ℕ) (octets : List ℕ) (feed : FeedValue) (remaining : Option (List ℕ)) (new : Standing T) : Type 0 where
  pub done : List (List ℕ)
  pub rest : List ℕ
  pub lines_are : lines octets ≡ done ++ lines rest
  pub next : Awaits feed remaining rest
  pub counted : feed.number ≡ number_after n done
  pub works : WorksThrough does old n done new

pub none_done : {T : Type 0} (does : Does T) (old : Standing T) (octets : List ℕ) (feed : FeedValue) (remaining : Option (List ℕ))
    → Awaits feed remaining octets → AreDone does old feed.number octets feed remaining old
none_done does old octets feed remaining a =
    record { done = []; rest = octets; lines_are = refl; next = a; counted = refl; works = rests_same old }

-- One more of them is.
pub one_done : {T : Type 0} (does : Does T) (old : Standing T) (n : ℕ) (octets : List ℕ) (feed : FeedValue) (remaining : Option (List ℕ)) (mid before : Standing T)
    (feed_then : FeedValue) (remaining_then : Option (List ℕ)) (new : Standing T)
    (so_far : AreDone does old n octets feed remaining mid)
    → Rests mid before
    → StandsAtFirst so_far.rest feed_then remaining_then
    → feed_then.number ≡ next_number feed.number
    → does before feed_then.number feed_then.line new
    → AreDone does old n octets feed_then remaining_then new
one_done does old n octets feed remaining mid before feed_then remaining_then new so_far r at number one =
    let number_is : feed_then.number ≡ next_number (number_after n so_far.done) = number ∙ ap next_number so_far.counted in
    record {
      done = so_far.done ++ at.first ∷ [];
      rest = at.rest;
      lines_are = so_far.lines_are ∙ ap (λ ls. so_far.done ++ ls) at.is_first ∙ sym (append_assoc so_far.done (at.first ∷ []) (lines at.rest));
      next = at.behind;
      counted = number_is ∙ sym (number_of_one_more n so_far.done at.first);
      works = one_more does old n so_far.done at.first mid before new so_far.works r
          (subst (λ l. does before (next_number (number_after n so_far.done)) l new) at.line
          (subst (λ m. does before m feed_then.line new) number_is one));
    }

-- All of them are, and then the worker ends.
pub all_done : {T : Type 0} (does : Does T) (ends : Ends T) (old : Standing T) (n : ℕ) (octets : List ℕ) (feed : FeedValue) (remaining : Option (List ℕ)) (mid before new : Standing T)
    (so_far : AreDone does old n octets feed remaining mid)
    → Rests mid before → so_far.rest ≡ [] → ends before new → WorksToEnd does ends old n (lines octets) new
all_done does ends old n octets feed remaining mid before new so_far r none ended =
    let all : lines octets ≡ so_far.done = so_far.lines_are ∙ ap (λ rest. so_far.done ++ lines rest) none ∙ append-nil so_far.done in
    record {
      last = before;
      works = subst (λ ls. WorksThrough does old n ls before) (sym all) (through_then does old n so_far.done mid before so_far.works r);
      at_last = ended;
    }

-- The input or the output failed, which leaves the worker as it was.
pub stopped : {T : Type 0} (does : Does T) (fails : Fails T) (fails_at_end : FailsAtEnd T) (old : Standing T) (n : ℕ) (octets : List ℕ) (feed : FeedValue) (remaining : Option (List ℕ)) (mid new : Standing T)
    → AreDone does old n octets feed remaining mid → new.taker ≡ mid.taker → WorksInPart does fails fails_at_end old n (lines octets) new
stopped does fails fails_at_end old n octets feed remaining mid new so_far same = record {
  done = so_far.done;
  rest = lines so_far.rest;
  are_these = so_far.lines_are;
  last = mid;
  works = so_far.works;
  goes_wrong = inl same;
}

-- The worker fails at the next line.
pub failed_at : {T : Type 0} (does : Does T) (fails : Fails T) (fails_at_end : FailsAtEnd T) (old : Standing T) (n : ℕ) (octets : List ℕ) (feed : FeedValue) (remaining : Option (List ℕ)) (mid before : Standing T)
    (feed_then : FeedValue) (remaining_then : Option (List ℕ)) (new : Standing T)
    (so_far : AreDone does old n octets feed remaining mid)
    → Rests mid before
    → StandsAtFirst so_far.rest feed_then remaining_then
    → feed_then.number ≡ next_number feed.number
    → fails before feed_then.number feed_then.line new
    → WorksInPart does fails fails_at_end old n (lines octets) new
failed_at does fails fails_at_end old n octets feed remaining mid before feed_then remaining_then new so_far r at number failed =
    let number_is : feed_then.number ≡ next_number (number_after n so_far.done) = number ∙ ap next_number so_far.counted in
    record {
      done = so_far.done;
      rest = lines so_far.rest;
      are_these = so_far.lines_are;
      last = before;
      works = through_then does old n so_far.done mid before so_far.works r;
      goes_wrong = inr (inl (record {
        first = at.first;
        others = lines at.rest;
        are_these = at.is_first;
        failed = subst (λ l. fails before (next_number (number_after n so_far.done)) l new) at.line
            (subst (λ m. fails before m feed_then.line new) number_is failed);
      }));
    }

-- It fails at the end.
pub failed_at_end : {T : Type 0} (does : Does T) (fails : Fails T) (fails_at_end : FailsAtEnd T) (old : Standing T) (n : ℕ) (octets : List ℕ) (feed : FeedValue) (remaining : Option (List ℕ)) (mid before new : Standing T)
    (so_far : AreDone does old n octets feed remaining mid)
    → Rests mid before → so_far.rest ≡ [] → fails_at_end before new → WorksInPart does fails fails_at_end old n (lines octets) new
failed_at_end does fails fails_at_end old n octets feed remaining mid before new so_far r none failed = record {
  done = so_far.done;
  rest = lines so_far.rest;
  are_these = so_far.lines_are;
  last = before;
  works = through_then does old n so_far.done mid before so_far.works r;
  goes_wrong = inr (inr (ap lines none, failed));
}

-- where it goes on, by what it says
pub goes_on : (octets : List ℕ) (more : Bool) (feed : FeedValue) (remaining : Option (List ℕ)) → more ≡ true → GoesOn octets (Ok more) feed remaining → StandsAtFirst octets feed remaining
goes_on octets more feed remaining is g = subst (λ b. GoesOn octets (Ok b) feed remaining) is g

pub ends_there : (octets : List ℕ) (more : Bool) (feed : FeedValue) (remaining : Option (List ℕ)) → more ≡ false → GoesOn octets (Ok more) feed remaining → octets ≡ []
ends_there octets more feed remaining is g = let at : GoesOn octets (Ok false) feed remaining = subst (λ b. GoesOn octets (Ok b) feed remaining) is g in at.0

pub next_is : (n : ℕ) (more : Bool) (feed : FeedValue) → more ≡ true → feed.number ≡ number_then n (Ok more) → feed.number ≡ next_number n
next_is n more feed is g = subst (λ b. feed.number ≡ number_then n (Ok b)) is g

-- before the first line
abbrev pub before_all : FeedValue
before_all = record { number = 0; line = Some []; left = []; is_long = false; has_ended = false }

pub awaits_all : (feed : FeedValue) (remaining : Option (List ℕ)) (octets : List ℕ) → feed ≡ before_all → remaining ≡ Some octets → Awaits feed remaining octets
awaits_all feed remaining octets is known = subst (λ f. Awaits f remaining octets) (sym is)
    (record { thrown = []; later = octets; known = known; whole = refl; ended = λ e. absurd cc; none = λ e. refl; long = λ e. absurd cc })

pub on_ok : {A E : Type 0} (r : Result A E) (P Q : Type 0) → (P → Q) → OnOk r P → OnOk r Q
on_ok (Ok a) P Q f p = f p
on_ok (Err e) P Q f p = p

pub on_err : {A E : Type 0} (r : Result A E) (P Q : Type 0) → (P → Q) → OnErr r P → OnErr r Q
on_err (Ok a) P Q f p = p
on_err (Err e) P Q f p = f p

pub told : {A E : Type 0} (r : Result A E) (P : Type 0) → P → OnErr r P
told (Ok a) P p = tt
told (Err e) P p = p

pub not_begun : {T : Type 0} (does : Does T) (fails : Fails T) (fails_at_end : FailsAtEnd T) (old : Standing T) (n : ℕ) (ls : List (List ℕ)) → WorksInPart does fails fails_at_end old n ls old
not_begun does fails fails_at_end old n ls =
    record { done = []; rest = ls; are_these = refl; last = old; works = rests_same old; goes_wrong = inl refl }

-- What the centre holds after an acceptance.
use Rattle.std.proofs.Common.{◌≡◌, ◌≢◌, ℕ, suc, ◌+◌, ◌<◌, max, Bool, true, false, cond, nat_lt, List, [], ◌∷◌, ◌++◌, length, Some, refl, sym, ap, ◌∙◌, subst, arith}
use Rattle.std.specs.Prelude.{◌==◌, ◌&&◌, ◌||◌}
use Rattle.std.specs.List.{slice_get}
use Rattle.std.proofs.Math.ListN.{set}
use Rattle.std.proofs.lemmas.Bool.Decides.{nat_tests}
use Rattle.sms_field.specs.Address.Value.{AddressValue}
use Rattle.sms_message.specs.Address.{address_of}
use Rattle.sms_centre.specs.Centre.State.{Acceptance, CentreState}
use Rattle.sms_centre.specs.Centre.Held.{unended, next_stamp}
use Rattle.sms_centre.specs.Centre.Submissions.{after_acceptance, accept}
use Rattle.sms_centre.specs.declared.centre.held.Ending.{Ending}
use Rattle.sms_centre.specs.Centre.Value.{CentreValue, LineValue, WaitingValue, addresses, HeldValue, endings_after}
use Rattle.sms_centre.specs.Inside.Lines.{accepting_line, ChangesLine}
use Rattle.sms_centre.specs.Inside.Kept.{free_at, HoldsAlso}
use Rattle.sms_centre.specs.Centre.Kept.{key_of, is_kept}
use Rattle.sms_centre.specs.Centre.Standing.{HeldStands, waiting_of, waiting_in, LineStands, StandsFor}
use Rattle.sms_centre.proofs.Lines.{set_stands, addresses_set, waiting_end, free_is}
use Rattle.sms_centre.proofs.Keys.{key_parts}
use Rattle.sms_centre.proofs.Holdings.{put_all, one_more}

unended_step : (x : Acceptance) (queue : List Acceptance) (a : Acceptance) (now : ℕ) (b : Bool) → unended (queue ++ a ∷ []) now ≡ unended queue now ++ a ∷ []
    → cond b (x ∷ unended (queue ++ a ∷ []) now) (unended (queue ++ a ∷ []) now) ≡ cond b (x ∷ unended queue now) (unended queue now) ++ a ∷ []
unended_step x queue a now true ih = ap (λ (l : List Acceptance). x ∷ l) ih
unended_step x queue a now false ih = ih

unended_more : (queue : List Acceptance) (a : Acceptance) (now : ℕ) → nat_lt now a.ends ≡ true → unended (queue ++ a ∷ []) now ≡ unended queue now ++ a ∷ []
unended_more [] a now e = rw e refl
unended_more (x ∷ queue) a now e = unended_step x queue a now (nat_lt now x.ends) (unended_more queue a now e)

greater : (stamp free now later : ℕ) → stamp ≡ max free now → max (suc stamp) (max free later) ≡ max (stamp + 1) later
greater stamp free now later e = omega arith

same_stamps : (a : Acceptance) (accepted : List Acceptance) (r now : ℕ) → r ≢ a.recipient → next_stamp (a ∷ accepted) r now ≡ next_stamp accepted r now
same_stamps a accepted r now n =
    let e : (a.recipient == r) ≡ false = grind (arith, nat_tests) in
    rw e refl

next_stamps : (a : Acceptance) (accepted : List Acceptance) (now : ℕ) → next_stamp (a ∷ accepted) a.recipient now ≡ max (suc a.stamp) (next_stamp accepted a.recipient now)
next_stamps a accepted now =
    let e : (a.recipient == a.recipient) ≡ true = grind (arith, nat_tests) in
    rw e refl

abbrev pub waiting_from : AddressValue → Acceptance → WaitingValue
waiting_from origin a = record { origin = origin; submission = a.submission; stamp = a.stamp; ends = a.ends }

stamp_free : (w : WaitingValue) (a : Acceptance) (origin : AddressValue) → w ≡ waiting_from origin a → a.stamp + 1 ≡ w.stamp + 1
stamp_free w a origin e = sym (ap (λ (x : WaitingValue). x.stamp + 1) e)

-- one message more is held
count_also : (a : Acceptance) (past : List Acceptance) (at n : ℕ) (b : Bool) → n ≡ length (unended past at) → cond b (suc n) n ≡ length (cond b (a ∷ unended past at) (unended past at))
count_also a past at n true e = ap suc e
count_also a past at n false e = e

abbrev pub ending_in : Acceptance → Ending
ending_in a = record { end = a.ends; recipient = a.recipient; stamp = a.stamp }

also_stands : (now : ℕ) (accepted : List Acceptance) (old new : HeldValue) (a : Acceptance) → now < a.ends → HeldStands now accepted old
    → HoldsAlso old (key_of a.phone a.submission.reference a.recipient) (ending_in a) new → HeldStands now (a ∷ accepted) new
also_stands now accepted old new a lives s h = record {
  left = put_all (λ e. now < e.end) (ending_in a) old.endings new.endings h.endings s.left lives;
  count = λ at le. one_more at (ending_in a) old.endings new.endings (nat_lt at a.ends) refl h.endings
      ∙ count_also a accepted at (length (endings_after at old.endings)) (nat_lt at a.ends) (s.count at le);
  kept = λ phone reference recipient at le.
      h.kept (key_of phone reference recipient) at
      ∙ (ap (λ b. (nat_lt at a.ends && b) || is_kept old.last (key_of phone reference recipient) at) (key_parts (key_of a.phone a.submission.reference a.recipient) (key_of phone reference recipient))
      ∙ ap (λ b. (nat_lt at a.ends && (a.phone == phone && (a.submission.reference == reference && a.recipient == recipient))) || b) (s.kept phone reference recipient at le));
}

module _ (limit : ℕ) (phones : List AddressValue) (now : ℕ) (v : CentreValue) (c : CentreState) (s : StandsFor limit phones now v c) (a : Acceptance) where
  pub accepted_stands : (held : HeldValue) (line new : LineValue) (w : WaitingValue)
      → slice_get v.lines a.recipient ≡ Some line
      → a.stamp ≡ max (free_at v.lines a.recipient) now → now < a.ends
      → HoldsAlso v.held (key_of a.phone a.submission.reference a.recipient) (ending_in a) held
      → new ≡ accepting_line line w → w ≡ record { origin = address_of (addresses v.lines) a.phone; submission = a.submission; stamp = a.stamp; ends = a.ends }
      → StandsFor limit phones now (record { limit = v.limit; held = held; lines = set v.lines a.recipient new }) (accept c a)
  accepted_stands held line new w there stamp lives holds is waits =
      let e : nat_lt now a.ends ≡ true = grind (arith, nat_tests) in
      let ls = s.lines_stand a.recipient line there in
      let free : a.stamp ≡ max line.free now = stamp ∙ ap (λ n. max n now) (free_is v.lines a.recipient line there) in
      let whom : w ≡ waiting_of phones a = waits ∙ ap (λ (ps : List AddressValue). waiting_from (address_of ps a.phone) a) s.phones_are in
      record {
        limit_is = s.limit_is;
        phones_are = addresses_set v.lines a.recipient line new there (ap (λ (l : LineValue). l.address) is) ∙ s.phones_are;
        held_stand = also_stands now c.accepted v.held held a lives s.held_stand holds;
        lines_stand = set_stands phones now (a ∷ c.accepted) c.line v.lines a.recipient new (after_acceptance (c.line a.recipient) a)
            (λ r l at apart. let x = s.lines_stand r l at in record {
              queue = x.queue;
              free = λ later. same_stamps a c.accepted r later apart ∙ x.free later;
              next = x.next;
              latest = x.latest;
            })
            (subst (λ (l : LineValue). LineStands phones now (a ∷ c.accepted) a.recipient l (after_acceptance (c.line a.recipient) a)) (sym is) (record {
              queue = ap (λ (q : List WaitingValue). q ++ w ∷ []) ls.queue
                  ∙ (ap (λ (x : WaitingValue). waiting_in phones (unended (c.line a.recipient).queue now) ++ x ∷ []) whom
                  ∙ sym (ap (waiting_in phones) (unended_more (c.line a.recipient).queue a now e) ∙ waiting_end phones (unended (c.line a.recipient).queue now) a));
              free = λ later. next_stamps a c.accepted later ∙ (ap (λ n. max (suc a.stamp) n) (ls.free later) ∙ (greater a.stamp line.free now later free ∙ ap (λ n. max n later) (stamp_free w a (address_of (addresses v.lines) a.phone) waits)));
              next = ls.next;
              latest = ls.latest;
            }));
      }

-- the lines keep their addresses
pub accepted_phones : (recipient : ℕ) (old new : List LineValue) (w : WaitingValue) → ChangesLine recipient old new (λ line new. new ≡ accepting_line line w) → addresses new ≡ addresses old
accepted_phones recipient old new w h = ap addresses h.others_stay ∙ addresses_set old recipient h.before h.after h.is_there (ap (λ (l : LineValue). l.address) h.how)

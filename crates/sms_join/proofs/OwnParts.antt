-- Recipients behind one joiner do not meet.
use Rattle.std.proofs.Common.{◌≡◌, ◌≢◌, ℕ, zero, suc, ◌<◌, ◌≤◌, Bool, true, false, cond, not, ◌&&◌, ◌||◌, eqb, ltb, List, [], ◌∷◌, ◌++◌, take, length, Option, refl, sym, ap, ◌∙◌, subst, arith}
use Rattle.std.proofs.lemmas.Bool.{false_from_ne_true, ltb-true, lt-ltb}
use Rattle.std.proofs.lemmas.List.{take_all}
use Rattle.std.specs.List.{filter}
use Rattle.sms_field.specs.Address.Value.{AddressValue}
use Rattle.sms_join.specs.declared.key.Key.{Key}
use Rattle.sms_join.specs.declared.units.Units.{Units}
use Rattle.sms_join.specs.Key.{same_key, is_for}
use Rattle.sms_join.specs.Piece.{Piece}
use Rattle.sms_join.specs.Joiner.Sets.{has, has_all, units_at, units_upto, is_open, opened_at, open_sets, without}
use Rattle.sms_join.specs.Joiner.{Joiner, Answer, Repeat, Kept, Finished, TooManyOpen, new_joiner, is_among, is_repeat, is_whole, has_room, decided, answer, answered, offered}
use Rattle.sms_join.specs.Joiner.Acts.{Brings, Ages}
use Rattle.sms_join.specs.Joiner.Aging.{is_old_after, young, aged_after}
use Rattle.sms_join.specs.Gateway.Value.{LimitsValue}
use Rattle.sms_join.specs.Gateway.Answers.{is_passed, gateway_offered, gateway_holds}
use Rattle.sms_join.specs.Gateway.Recipients.{part, IsOfItsPart, AnswersEach, IsLeft, LeavesOthers, AgesEach, acts_for, HoldsEach}
use Rattle.sms_join.proofs.SameKeys.{same_key_true}
use Rattle.sms_join.proofs.Sets.{has_all-same}

module _ (r : Option AddressValue) where
  abbrev pub own : List Piece → List Piece
  own ps = filter (λ p. is_for r p.key) ps

  -- a key of another recipient is another one
  apart : (k l : Key) → is_for r k ≡ false → is_for r l ≡ true → same_key k l ≡ false
  apart k l f t = false_from_ne_true _ (λ e.
      let g : is_for r k ≡ true = subst (λ (m : Key). is_for r m ≡ true) (sym (same_key_true k l e)) t in
      let q : true ≡ false = sym g ∙ f in cc)

  has-own : (ps : List Piece) (k : Key) (n : ℕ) → is_for r k ≡ true → has (own ps) k n ≡ has ps k n
  has-own [] k n t = refl
  has-own (p ∷ ps) k n t = go (is_for r p.key) refl (has-own ps k n t)
    where
      go : (b : Bool) → is_for r p.key ≡ b → has (own ps) k n ≡ has ps k n
          → has (cond b (p ∷ own ps) (own ps)) k n ≡ ((same_key p.key k && eqb p.sequence n) || has ps k n)
      go true e ih = ap (λ (b : Bool). (same_key p.key k && eqb p.sequence n) || b) ih
      go false e ih = rw (apart p.key k e t) ih

  open-own : (ps : List Piece) (k : Key) → is_for r k ≡ true → is_open (own ps) k ≡ is_open ps k
  open-own [] k t = refl
  open-own (p ∷ ps) k t = go (is_for r p.key) refl (open-own ps k t)
    where
      go : (b : Bool) → is_for r p.key ≡ b → is_open (own ps) k ≡ is_open ps k
          → is_open (cond b (p ∷ own ps) (own ps)) k ≡ (same_key p.key k || is_open ps k)
      go true e ih = ap (λ (b : Bool). same_key p.key k || b) ih
      go false e ih = rw (apart p.key k e t) ih

  units-own : (ps : List Piece) (k : Key) (n : ℕ) → is_for r k ≡ true → units_at (own ps) k n ≡ units_at ps k n
  units-own [] k n t = refl
  units-own (p ∷ ps) k n t = go (is_for r p.key) refl (units-own ps k n t)
    where
      go : (b : Bool) → is_for r p.key ≡ b → units_at (own ps) k n ≡ units_at ps k n
          → units_at (cond b (p ∷ own ps) (own ps)) k n ≡ cond (same_key p.key k && eqb p.sequence n) p.units (units_at ps k n)
      go true e ih = ap (cond (same_key p.key k && eqb p.sequence n) p.units) ih
      go false e ih = rw (apart p.key k e t) ih

  opened-own : (ps : List Piece) (k : Key) → is_for r k ≡ true → opened_at (own ps) k ≡ opened_at ps k
  opened-own [] k t = refl
  opened-own (p ∷ ps) k t = go (is_for r p.key) refl (opened-own ps k t)
    where
      go : (b : Bool) → is_for r p.key ≡ b → opened_at (own ps) k ≡ opened_at ps k
          → opened_at (cond b (p ∷ own ps) (own ps)) k ≡ cond (same_key p.key k && not (is_open ps k)) p.moment (opened_at ps k)
      go true e ih = rw (open-own ps k t, ih) refl
      go false e ih = rw (apart p.key k e t) ih

  upto-own : (ps : List Piece) (k : Key) (n : ℕ) → is_for r k ≡ true → units_upto (own ps) k n ≡ units_upto ps k n
  upto-own ps k zero t = refl
  upto-own ps k (suc n) t =
      ap (λ (us : List Units). us ++ units_at (own ps) k (suc n) ∷ []) (upto-own ps k n t)
      ∙ ap (λ (u : Units). units_upto ps k n ++ u ∷ []) (units-own ps k (suc n) t)

  pub among-own : (ks : List Key) (k : Key) → is_for r k ≡ true → is_among (filter (is_for r) ks) k ≡ is_among ks k
  among-own [] k t = refl
  among-own (x ∷ ks) k t = go (is_for r x) refl (among-own ks k t)
    where
      go : (b : Bool) → is_for r x ≡ b → is_among (filter (is_for r) ks) k ≡ is_among ks k
          → is_among (cond b (x ∷ filter (is_for r) ks) (filter (is_for r) ks)) k ≡ (same_key x k || is_among ks k)
      go true e ih = ap (λ (b : Bool). same_key x k || b) ih
      go false e ih = rw (apart x k e t) ih

  fewer-own : (ps : List Piece) → open_sets (own ps) ≤ open_sets ps
  fewer-own [] = omega arith
  fewer-own (p ∷ ps) = go (is_for r p.key) refl (is_open ps p.key) refl (fewer-own ps)
    where
      go : (b : Bool) → is_for r p.key ≡ b → (c : Bool) → is_open ps p.key ≡ c → open_sets (own ps) ≤ open_sets ps
          → open_sets (cond b (p ∷ own ps) (own ps)) ≤ cond c (open_sets ps) (suc (open_sets ps))
      go true e true f ih = let o : is_open (own ps) p.key ≡ true = open-own ps p.key e ∙ f in rw o ih
      go true e false f ih = let o : is_open (own ps) p.key ≡ false = open-own ps p.key e ∙ f in rw o (omega arith)
      go false e true f ih = ih
      go false e false f ih = omega arith

  pub without-own : (ps : List Piece) (k : Key) → own (without ps k) ≡ without (own ps) k
  without-own [] k = refl
  without-own (p ∷ ps) k = go (same_key p.key k) refl (is_for r p.key) refl (without-own ps k)
    where
      go : (b : Bool) → same_key p.key k ≡ b → (c : Bool) → is_for r p.key ≡ c → own (without ps k) ≡ without (own ps) k
          → own (cond b (without ps k) (p ∷ without ps k)) ≡ without (cond c (p ∷ own ps) (own ps)) k
      go true e true f ih = rw e ih
      go true e false f ih = ih
      go false e true f ih = rw (e, f) (ap (λ (l : List Piece). p ∷ l) ih)
      go false e false f ih = rw f ih

  -- what goes of another recipient
  without-other : (ps : List Piece) (k : Key) → is_for r k ≡ false → own (without ps k) ≡ own ps
  without-other [] k t = refl
  without-other (p ∷ ps) k t = go (same_key p.key k) refl (without-other ps k t)
    where
      go : (b : Bool) → same_key p.key k ≡ b → own (without ps k) ≡ own ps
          → own (cond b (without ps k) (p ∷ without ps k)) ≡ cond (is_for r p.key) (p ∷ own ps) (own ps)
      go true e ih =
          let f : is_for r p.key ≡ false = ap (is_for r) (same_key_true p.key k e) ∙ t in
          rw f ih
      go false e ih = ap (λ (l : List Piece). cond (is_for r p.key) (p ∷ l) l) ih

  pub fewer_keys : (ks : List Key) → length (filter (is_for r) ks) ≤ length ks
  fewer_keys [] = omega arith
  fewer_keys (k ∷ ks) = go (is_for r k) (fewer_keys ks)
    where
      go : (b : Bool) → length (filter (is_for r) ks) ≤ length ks → length (cond b (k ∷ filter (is_for r) ks) (filter (is_for r) ks)) ≤ suc (length ks)
      go true ih = omega arith
      go false ih = omega arith

  pub more : (p : Piece) (ps : List Piece) → is_for r p.key ≡ true → own (p ∷ ps) ≡ p ∷ own ps
  more p ps t = rw t refl

  -- ---- a piece of the recipient

  whole-own : (j : Joiner) (p : Piece) → is_for r p.key ≡ true → is_whole j p ≡ is_whole (part r j) p
  unfolding is_whole
  whole-own j p t =
      sym (has_all-same (own (p ∷ j.kept)) (p ∷ j.kept) p.key p.maximum (λ i. has-own (p ∷ j.kept) p.key i t))
      ∙ ap (λ (ps : List Piece). has_all ps p.key p.maximum) (more p j.kept t)

  repeat-own : (j : Joiner) (p : Piece) → is_for r p.key ≡ true → is_repeat j p ≡ is_repeat (part r j) p
  unfolding is_repeat
  repeat-own j p t = rw (among-own j.finished p.key t, has-own j.kept p.key p.sequence t) refl

  told-own : (j : Joiner) (p : Piece) → is_for r p.key ≡ true → units_upto (p ∷ j.kept) p.key p.maximum ≡ units_upto (p ∷ own j.kept) p.key p.maximum
  told-own j p t =
      sym (upto-own (p ∷ j.kept) p.key p.maximum t) ∙ ap (λ (ps : List Piece). units_upto ps p.key p.maximum) (more p j.kept t)

  room-own : (open_max : ℕ) (j : Joiner) (p : Piece) → is_for r p.key ≡ true → has_room open_max j p ≡ true → has_room open_max (part r j) p ≡ true
  unfolding has_room
  room-own open_max j p t h = go (is_open j.kept p.key) (open-own j.kept p.key t) h (fewer-own j.kept)
    where
      go : (b : Bool) → is_open (own j.kept) p.key ≡ b → (b || ltb (open_sets j.kept) open_max) ≡ true → open_sets (own j.kept) ≤ open_sets j.kept
          → (is_open (own j.kept) p.key || ltb (open_sets (own j.kept)) open_max) ≡ true
      go true e h few = rw e refl
      go false e h few =
          let l = ltb-true (open_sets j.kept) open_max h in
          rw (e, lt-ltb (open_sets (own j.kept)) open_max (omega arith)) refl

  -- where there is room for all, there is for its own
  decided_same : (repeat whole room own_room : Bool) (us : List Units) → (room ≡ true → own_room ≡ true) → decided repeat whole room us ≢ TooManyOpen
      → decided repeat whole room us ≡ decided repeat whole own_room us
  unfolding decided
  decided_same true whole room own_room us h taken = refl
  decided_same false true room own_room us h taken = refl
  decided_same false false true own_room us h taken = rw (h refl) refl
  decided_same false false false own_room us h taken = absurd (taken refl)

  pub answer-own : (open_max : ℕ) (j : Joiner) (p : Piece) → is_for r p.key ≡ true → answer open_max j p ≢ TooManyOpen
      → answer open_max j p ≡ answer open_max (part r j) p
  unfolding answer
  answer-own open_max j p t taken =
      decided_same (is_repeat j p) (is_whole j p) (has_room open_max j p) (has_room open_max (part r j) p) (units_upto (p ∷ j.kept) p.key p.maximum) (room-own open_max j p t) taken
      ∙ rw (repeat-own j p t, whole-own j p t, told-own j p t) refl

  remembers : (remembered : ℕ) (ks : List Key) (k : Key) → length ks < remembered → is_for r k ≡ true
      → filter (is_for r) (take remembered (k ∷ ks)) ≡ take remembered (k ∷ filter (is_for r) ks)
  remembers remembered ks k few t =
      let fewer = fewer_keys ks in
      ap (filter (is_for r)) (take_all remembered (k ∷ ks) (omega arith))
      ∙ (rw t refl ∙ sym (take_all remembered (k ∷ filter (is_for r) ks) (omega arith)))

  remembers_others : (remembered : ℕ) (ks : List Key) (k : Key) → length ks < remembered → is_for r k ≡ false
      → filter (is_for r) (take remembered (k ∷ ks)) ≡ filter (is_for r) ks
  remembers_others remembered ks k few t = ap (filter (is_for r)) (take_all remembered (k ∷ ks) (omega arith)) ∙ rw t refl

  kept-own : (remembered : ℕ) (j : Joiner) (p : Piece) (a : Answer) → is_for r p.key ≡ true
      → own (answered remembered j p a).kept ≡ (answered remembered (part r j) p a).kept
  unfolding answered
  kept-own remembered j p Repeat t = refl
  kept-own remembered j p Kept t = more p j.kept t
  kept-own remembered j p (Finished us) t = without-own j.kept p.key
  kept-own remembered j p TooManyOpen t = refl

  keys-own : (remembered : ℕ) (j : Joiner) (p : Piece) (a : Answer) → length j.finished < remembered → is_for r p.key ≡ true
      → filter (is_for r) (answered remembered j p a).finished ≡ (answered remembered (part r j) p a).finished
  unfolding answered
  keys-own remembered j p Repeat few t = refl
  keys-own remembered j p Kept few t = refl
  keys-own remembered j p (Finished us) few t = remembers remembered j.finished p.key few t
  keys-own remembered j p TooManyOpen few t = refl

  pub kept-others : (remembered : ℕ) (j : Joiner) (p : Piece) (a : Answer) → is_for r p.key ≡ false → own (answered remembered j p a).kept ≡ own j.kept
  unfolding answered
  kept-others remembered j p Repeat t = refl
  kept-others remembered j p Kept t = rw t refl
  kept-others remembered j p (Finished us) t = without-other j.kept p.key t
  kept-others remembered j p TooManyOpen t = refl

  keys-others : (remembered : ℕ) (j : Joiner) (p : Piece) (a : Answer) → length j.finished < remembered → is_for r p.key ≡ false
      → filter (is_for r) (answered remembered j p a).finished ≡ filter (is_for r) j.finished
  unfolding answered
  keys-others remembered j p Repeat few t = refl
  keys-others remembered j p Kept few t = refl
  keys-others remembered j p (Finished us) few t = remembers_others remembered j.finished p.key few t
  keys-others remembered j p TooManyOpen few t = refl

  -- ---- an aging

  young-own : (old new : Key → Bool) → ((k : Key) → is_for r k ≡ true → old k ≡ new k) → (ps : List Piece) → own (young old ps) ≡ young new (own ps)
  young-own old new h [] = refl
  young-own old new h (p ∷ ps) = go (old p.key) refl (is_for r p.key) refl (young-own old new h ps)
    where
      go : (b : Bool) → old p.key ≡ b → (c : Bool) → is_for r p.key ≡ c → own (young old ps) ≡ young new (own ps)
          → own (cond b (young old ps) (p ∷ young old ps)) ≡ young new (cond c (p ∷ own ps) (own ps))
      go true e true f ih = let g : new p.key ≡ true = sym (h p.key f) ∙ e in rw g ih
      go true e false f ih = ih
      go false e true f ih = let g : new p.key ≡ false = sym (h p.key f) ∙ e in rw (f, g) (ap (λ (l : List Piece). p ∷ l) ih)
      go false e false f ih = rw f ih

  pub aged-own : (longest now : ℕ) (j : Joiner) → part r (aged_after longest now j) ≡ aged_after longest now (part r j)
  unfolding aged_after
  aged-own longest now j =
      ap (λ (ps : List Piece). record { kept = ps; finished = filter (is_for r) j.finished })
      (young-own (is_old_after longest now j.kept) (is_old_after longest now (own j.kept)) (λ k t. rw (open-own j.kept k t, opened-own j.kept k t) refl) j.kept)

both_parts : (i j : Joiner) → i.kept ≡ j.kept → i.finished ≡ j.finished → i ≡ j
both_parts i j kept finished = λ n. record { kept = kept n; finished = finished n }

module _ (limits : LimitsValue) (j : Joiner) (p : Piece) (r : Option AddressValue) where
  -- what the joiner does is seen in the part
  module _ (t : is_for r p.key ≡ true) (taken : answer limits.open_max j p ≢ TooManyOpen) where
    same : answer limits.open_max j p ≡ answer limits.open_max (part r j) p
    same = answer-own r limits.open_max j p t taken

    offered_kept : own r (offered limits.open_max limits.remembered j p).kept ≡ (offered limits.open_max limits.remembered (part r j) p).kept
    unfolding offered
    offered_kept =
        kept-own r limits.remembered j p (answer limits.open_max j p) t
        ∙ ap (λ (a : Answer). (answered limits.remembered (part r j) p a).kept) same

    offered_keys : length j.finished < limits.remembered
        → filter (is_for r) (offered limits.open_max limits.remembered j p).finished ≡ (offered limits.open_max limits.remembered (part r j) p).finished
    unfolding offered
    offered_keys few =
        keys-own r limits.remembered j p (answer limits.open_max j p) few t
        ∙ ap (λ (a : Answer). (answered limits.remembered (part r j) p a).finished) same

    offered_own : length j.finished < limits.remembered
        → part r (offered limits.open_max limits.remembered j p) ≡ offered limits.open_max limits.remembered (part r j) p
    offered_own few =
        both_parts (part r (offered limits.open_max limits.remembered j p)) (offered limits.open_max limits.remembered (part r j) p) offered_kept (offered_keys few)

  left_kept : is_for r p.key ≡ false → own r (offered limits.open_max limits.remembered j p).kept ≡ own r j.kept
  unfolding offered
  left_kept t = kept-others r limits.remembered j p (answer limits.open_max j p) t

  left_keys : length j.finished < limits.remembered → is_for r p.key ≡ false
      → filter (is_for r) (offered limits.open_max limits.remembered j p).finished ≡ filter (is_for r) j.finished
  unfolding offered
  left_keys few t = keys-others r limits.remembered j p (answer limits.open_max j p) few t

  own_by : (b : Bool) → is_passed limits.alone p.key ≡ b → is_for r p.key ≡ true
      → cond b (Finished (p.units ∷ [])) (answer limits.open_max j p) ≢ TooManyOpen → IsOfItsPart limits j p r
  own_by true e t taken = record { answer = rw e refl; kept = rw e refl; holds = λ few. rw e refl }
  own_by false e t taken =
      record {
        answer = rw e (same t taken);
        kept = rw e (offered_kept t taken);
        holds = λ few. rw e (offered_own t taken few);
      }

  others_by : (b : Bool) → is_passed limits.alone p.key ≡ b → is_for r p.key ≡ false → IsLeft limits j p r
  others_by true e t = record { kept = rw e refl; holds = λ few. rw e refl }
  others_by false e t =
      record {
        kept = rw e (left_kept t);
        holds = λ few. rw e (both_parts (part r (offered limits.open_max limits.remembered j p)) (part r j) (left_kept t) (left_keys few t));
      }

pub answers_each : AnswersEach
answers_each limits j p r t taken = own_by limits j p r (is_passed limits.alone p.key) refl t taken

pub leaves_others : LeavesOthers
leaves_others limits j p r t = others_by limits j p r (is_passed limits.alone p.key) refl t

pub ages_each : AgesEach
ages_each longest now j r = aged-own r longest now j

-- ---- a list of offers and agings

pub holds_each : HoldsEach
unfolding new_joiner
holds_each limits [] r h = refl
holds_each limits (Brings p ∷ acts) r h = go (is_for r p.key) refl (holds_each limits acts r h.1)
  where
    go : (b : Bool) → is_for r p.key ≡ b → part r (gateway_holds limits acts) ≡ gateway_holds limits (acts_for r acts)
        → part r (gateway_offered limits (gateway_holds limits acts) p) ≡ gateway_holds limits (cond b (Brings p ∷ acts_for r acts) (acts_for r acts))
    go true e ih =
        (answers_each limits (gateway_holds limits acts) p r e h.0.taken).holds h.0.keys
        ∙ ap (λ (j : Joiner). gateway_offered limits j p) ih
    go false e ih = (leaves_others limits (gateway_holds limits acts) p r e).holds h.0.keys ∙ ih
holds_each limits (Ages now ∷ acts) r h = aged-own r limits.open_for now (gateway_holds limits acts) ∙ ap (aged_after limits.open_for now) (holds_each limits acts r h)

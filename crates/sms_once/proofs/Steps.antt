-- Steps of a joiner for many recipients follow the run.
use Rattle.std.proofs.Common.{◌≡◌, ◌≢◌, Result, Ok, Err, ℕ, ◌+◌, ◌-◌, ◌<◌, ◌≤◌, ◌⊎◌, inl, inr, Bool, true, false, cond, ◌&&◌, leb, List, [], ◌∷◌, refl, sym, ap, ◌∙◌, subst, arith}
use Rattle.std.proofs.lemmas.Bool.{cases_lt, leb-true, le-leb, false_from_ne_true}
use Rattle.std.specs.Result.{OnOk, OnErr}
use Rattle.sms_join.specs.declared.key.Key.{Key}
use Rattle.sms_join.specs.declared.offer.Offer.{Offer}
use Rattle.sms_join.specs.declared.offer.OfferFault.{OfferFault}
use Rattle.sms_join.specs.declared.offer.OfferFault.TheVariants as faults
use Rattle.sms_join.specs.Piece.{Piece}
use Rattle.sms_join.specs.Joiner.Sets.{is_open, opened_at}
use Rattle.sms_join.specs.Joiner.{Joiner, Answer, Repeat, Kept, Finished, TooManyOpen, answer, answered, offered}
use Rattle.sms_join.specs.Joiner.Aging.{AgesAlike, aged, aged_after, is_old, is_old_after, young}
use Rattle.sms_join.specs.Joiner.Acts.{Act, Brings, Ages}
use Rattle.sms_join.specs.Joiner.Finishing.{SameIsEquivalence}
use Rattle.sms_join.specs.Joiner.Offering.{SaysAnswer, is_first}
use Rattle.sms_join.specs.Joiner.Same.{AnswersAlike, IsSame}
use Rattle.sms_join.specs.Gateway.Answers.{gateway_aged, gateway_answer, gateway_finishings, gateway_offered, is_passed}
use Rattle.sms_join.specs.Gateway.Finishings.{finishings_after, finishings_at, keys_at}
use Rattle.sms_join.specs.Gateway.Value.{GatewayValue, LimitsValue}
use Rattle.sms_once.specs.Run.{Held, held_after, held_aged, new_held, run}
use Rattle.sms_once.specs.Steps.{AreSteps, Holds, IsOffered, IsStep, StepsFollowRun}

leb_alike : (a b c d : ℕ) → (a ≤ b → c ≤ d) → (c ≤ d → a ≤ b) → leb a b ≡ leb c d
leb_alike a b c d f g = go (leb a b) refl
  where
    go : (x : Bool) → leb a b ≡ x → leb a b ≡ leb c d
    go true e = e ∙ sym (le-leb c d (f (leb-true a b e)))
    go false e = e ∙ sym (false_from_ne_true (leb c d) (λ t. let l = le-leb a b (g (leb-true c d t)) in let z : true ≡ false = sym l ∙ e in cc))

-- a moment at which just those sets are a week old
record IsWeek (longest now n : ℕ) : Type 0 where
  alike : (m : ℕ) → leb (m + longest) now ≡ leb (m + 604800) n

week : (longest now : ℕ) → (n : ℕ) × IsWeek longest now n
week longest now = go (cases_lt now longest)
  where
    go : (now < longest) ⊎ (longest ≤ now) → (n : ℕ) × IsWeek longest now n
    go (inl l) = (0, record { alike = λ m. leb_alike (m + longest) now (m + 604800) 0 (λ a. omega arith) (λ a. omega arith) })
    go (inr l) = (
      (now - longest) + 604800,
      record { alike = λ m. leb_alike (m + longest) now (m + 604800) ((now - longest) + 604800) (λ a. omega arith) (λ a. omega arith) },
    )

young_alike : (f g : Key → Bool) (ps : List Piece) → ((k : Key) → f k ≡ g k) → young f ps ≡ young g ps
young_alike f g [] e = refl
young_alike f g (p ∷ ps) e = ap (λ b. cond b (young f ps) (p ∷ young f ps)) (e p.key) ∙ ap (λ l. cond (g p.key) l (p ∷ l)) (young_alike f g ps e)

aged_week : (longest now n : ℕ) (j : Joiner) → IsWeek longest now n → (aged_after longest now j).kept ≡ (aged n j).kept
unfolding aged_after aged
aged_week longest now n j w =
    young_alike (is_old_after longest now j.kept) (is_old n j.kept) j.kept (λ k. ap (λ b. is_open j.kept k && b) (w.alike (opened_at j.kept k)))

module _ (answers : AnswersAlike) (ages : AgesAlike) (equivalence : SameIsEquivalence) where
  along : (i j k : Joiner) → IsSame i j → IsSame j k → IsSame i k
  along = equivalence.2

  -- the same pieces under the same keys
  with_kept : (i j : Joiner) (ps qs : List Piece) (ks ls : List Key) → IsSame i j → ps ≡ i.kept → qs ≡ j.kept → ks ≡ ls
      → IsSame (record { kept = ps; finished = ks }) (record { kept = qs; finished = ls })
  with_kept i j ps qs ks ls s e f g =
      subst (λ (l : List Piece). IsSame (record { kept = l; finished = ks }) (record { kept = qs; finished = ls })) (sym e)
      (subst (λ (l : List Piece). IsSame (record { kept = i.kept; finished = ks }) (record { kept = l; finished = ls })) (sym f)
      (record { pieces = s.pieces; units = s.units; opened = s.opened; moments = s.moments; sets = s.sets; finished = g }))

  aged_alike : (limits : LimitsValue) (now : ℕ) (i j : Joiner) (ms ns : List ℕ) → IsSame i j → ms ≡ ns
      → IsSame (record { kept = (aged_after limits.open_for now i).kept; finished = keys_at limits.remember_for now i.finished ms })
      (record { kept = (aged_after limits.open_for now j).kept; finished = keys_at limits.remember_for now j.finished ns })
  aged_alike limits now i j ms ns s e =
      let w = week limits.open_for now in
      with_kept (aged w.0 i) (aged w.0 j) (aged_after limits.open_for now i).kept (aged_after limits.open_for now j).kept
      (keys_at limits.remember_for now i.finished ms) (keys_at limits.remember_for now j.finished ns)
      (ages w.0 i j s) (aged_week limits.open_for now w.0 i w.1) (aged_week limits.open_for now w.0 j w.1)
      (ap (λ ks. keys_at limits.remember_for now ks ms) s.finished ∙ ap (keys_at limits.remember_for now j.finished) e)

  offered_alike : (limits : LimitsValue) (i j : Joiner) (p : Piece) → IsSame i j → IsSame (gateway_offered limits i p) (gateway_offered limits j p)
  offered_alike limits i j p s = go (is_passed limits.alone p.key)
    where
      go : (b : Bool) → IsSame (cond b i (offered limits.open_max limits.remembered i p)) (cond b j (offered limits.open_max limits.remembered j p))
      go true = s
      go false = (answers limits.open_max limits.remembered i j p s).1

  answer_alike : (limits : LimitsValue) (i j : Joiner) (p : Piece) → IsSame i j → gateway_answer limits i p ≡ gateway_answer limits j p
  answer_alike limits i j p s = ap (cond (is_passed limits.alone p.key) (Finished (p.units ∷ []))) (answers limits.open_max limits.remembered i j p s).0

  finishings_alike : (limits : LimitsValue) (i j : Joiner) (ms ns : List ℕ) (p : Piece) → IsSame i j → ms ≡ ns
      → gateway_finishings limits i ms p ≡ gateway_finishings limits j ns p
  finishings_alike limits i j ms ns p s e =
      ap (λ l. gateway_finishings limits i l p) e
      ∙ ap (λ a. cond (is_passed limits.alone p.key) ns (finishings_after limits.remembered ns p.moment a)) (answers limits.open_max limits.remembered i j p s).0

  -- one step
  one_step : (limits : LimitsValue) (old new : GatewayValue) (h : Held) (act : Act Piece) → old.limits ≡ limits → Holds old h → IsStep old new act
      → Holds new (held_after limits h act) × (new.limits ≡ limits)
  one_step limits old new h (Brings p) l d c = (
    record {
      holds = along new.holds (gateway_offered old.limits old.holds p) (gateway_offered limits h.holds p) c.holds
          (along (gateway_offered old.limits old.holds p) (gateway_offered old.limits h.holds p) (gateway_offered limits h.holds p)
          (offered_alike old.limits old.holds h.holds p d.holds)
          (subst (λ (m : LimitsValue). IsSame (gateway_offered old.limits h.holds p) (gateway_offered m h.holds p)) l (equivalence.0 (gateway_offered old.limits h.holds p))));
      finishings = c.finishings ∙ (finishings_alike old.limits old.holds h.holds old.finishings h.finishings p d.holds d.finishings
          ∙ ap (λ (m : LimitsValue). gateway_finishings m h.holds h.finishings p) l);
    },
    c.limits ∙ l,
  )
  one_step limits old new h (Ages now) l d c = (
    record {
      holds = along new.holds (gateway_aged old now) (held_aged limits h now).holds c.holds
          (subst (λ (m : LimitsValue). IsSame (gateway_aged old now) (held_aged m h now).holds) l
          (aged_alike old.limits now old.holds h.holds old.finishings h.finishings d.holds d.finishings));
      finishings = c.finishings ∙ (ap (finishings_at old.limits.remember_for now) d.finishings ∙ ap (λ (m : LimitsValue). finishings_at m.remember_for now h.finishings) l);
    },
    c.limits ∙ l,
  )

  all_steps : (old new : GatewayValue) (h : Held) (acts : List (Act Piece)) → Holds old h → AreSteps old new acts
      → Holds new (run old.limits h acts) × (new.limits ≡ old.limits)
  all_steps old new h [] d c = (subst (λ (g : GatewayValue). Holds g h) (sym c) d, ap (λ (g : GatewayValue). g.limits) c)
  all_steps old new h (act ∷ acts) d c =
      let ih = all_steps old c.0 h acts d c.1 in
      one_step old.limits c.0 new (run old.limits h acts) act ih.1 ih.0 c.2

  pub steps_follow_run : StepsFollowRun
  steps_follow_run =
      record {
        begins = λ g e f. record { holds = subst (λ (j : Joiner). IsSame j new_held.holds) (sym e) (equivalence.0 new_held.holds); finishings = f };
        follows = λ old new h acts d c.
            let r = all_steps old new h acts d c in
            record {
              holds = r.0;
              answers = λ p.
                  ap (λ (m : LimitsValue). gateway_answer m new.holds p) r.1
                  ∙ answer_alike old.limits new.holds (run old.limits h acts).holds p r.0.holds;
            };
      }

-- ---- one call

-- one that is turned away leaves all as it was
module _ (limits : LimitsValue) (j : Joiner) (ms : List ℕ) (p : Piece) (says : SaysAnswer (gateway_answer limits j p) (is_first j p) (Err faults.TooManyOpen)) where
  turned_away : (gateway_offered limits j p ≡ j) × (gateway_finishings limits j ms p ≡ ms)
  unfolding offered answered
  turned_away = go (is_passed limits.alone p.key) (answer limits.open_max j p) says
    where
      go : (b : Bool) (a : Answer) → SaysAnswer (cond b (Finished (p.units ∷ [])) a) (is_first j p) (Err faults.TooManyOpen)
          → (cond b j (answered limits.remembered j p a) ≡ j) × (cond b ms (finishings_after limits.remembered ms p.moment a) ≡ ms)
      go true a s = (refl, refl)
      go false Repeat s = absurd s
      go false Kept s = absurd s
      go false (Finished us) s = absurd s
      go false TooManyOpen s = (refl, refl)

same : (j : Joiner) → IsSame j j
same j = record { pieces = λ k n. refl; units = λ k n t. refl; opened = λ k. refl; moments = λ k. refl; sets = refl; finished = refl }

pub offer_is_step : (old new : GatewayValue) (p : Piece) (result : Result Offer OfferFault)
    → SaysAnswer (gateway_answer old.limits old.holds p) (is_first old.holds p) result
    → OnOk result (IsSame new.holds (gateway_offered old.limits old.holds p))
    → OnOk result (new.finishings ≡ gateway_finishings old.limits old.holds old.finishings p)
    → new.limits ≡ old.limits → OnErr result (new ≡ old) → result ≢ Err faults.Memory → IsOffered old new p
offer_is_step old new p (Ok o) says holds moments limits refused n = record { holds = holds; finishings = moments; limits = limits }
offer_is_step old new p (Err faults.Memory) says holds moments limits refused n = absurd (n refl)
offer_is_step old new p (Err faults.TooManyOpen) says holds moments limits refused n =
    let t = turned_away old.limits old.holds old.finishings p says in
    record {
      holds = subst (λ (j : Joiner). IsSame new.holds j) (sym t.0) (subst (λ (g : GatewayValue). IsSame g.holds old.holds) (sym refused) (same old.holds));
      finishings = ap (λ (g : GatewayValue). g.finishings) refused ∙ sym t.1;
      limits = limits;
    }

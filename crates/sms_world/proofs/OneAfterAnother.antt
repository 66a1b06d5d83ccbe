-- A run of events, one after another.
use Rattle.std.proofs.Common.{◌≡◌, ℕ, zero, suc, ◌+◌, List, [], ◌∷◌, ◌++◌, length, take, Some, refl, sym, ap, ◌∙◌, subst, arith}
use Rattle.std.proofs.lemmas.List.{length_push}
use Rattle.std.specs.List.{slice_get}
use Rattle.sms_field.specs.Address.Value.{AddressValue}
use Rattle.sms_script.specs.declared.script.limits.Limits.{Limits}
use Rattle.sms_script.specs.declared.meaning.event.Event as script
use Rattle.sms_world.specs.Told.{Told}
use Rattle.sms_world.specs.Machine.{start}
use Rattle.sms_world.specs.Machine.Step.{Run}
use Rattle.sms_world.specs.Watched.{WatchedValue, ComesOf, GoesOnWatched, RunsWatched}
use Rattle.sms_world.specs.Inside.Watching.{AllGoOnWatched}
use Rattle.sms_world.specs.World.Value.{WorldValue}
use Rattle.sms_world.specs.World.Steps.{event_of, Steps, told_past, Runs, GoesOn}

-- one event more is the newest
told_more : (events : List script.Event) (told : List Told) (e : script.Event) (t : Told) → length told ≡ length events → told_past (events ++ e ∷ []) (told ++ t ∷ []) ≡ (event_of e, t) ∷ told_past events told
told_more [] [] e t same = refl
told_more [] (u ∷ told) e t same = absurd (let k : suc (length told) ≡ 0 = same in omega (arith, k))
told_more (f ∷ events) [] e t same = absurd (let k : 0 ≡ suc (length events) = same in omega (arith, k))
told_more (f ∷ events) (u ∷ told) e t same =
    let k : length told ≡ length events = omega (arith, same) in
    ap (λ l. l ++ (event_of f, u) ∷ []) (told_more events told e t k)

take_next : {X : Type 0} (xs : List X) (n : ℕ) (x : X) → slice_get xs n ≡ Some x → take (suc n) xs ≡ take n xs ++ x ∷ []
take_next [] n x e = absurd cc
take_next (y ∷ xs) zero x e = let same : y ≡ x = cc in ap (λ z. z ∷ []) same
take_next (y ∷ xs) (suc n) x e = ap (λ l. y ∷ l) (take_next xs n x e)

length_taken : {X : Type 0} (xs : List X) (n : ℕ) (x : X) → slice_get xs n ≡ Some x → length (take n xs) ≡ n
length_taken [] n x e = absurd cc
length_taken (y ∷ xs) zero x e = refl
length_taken (y ∷ xs) (suc n) x e = ap suc (length_taken xs n x e)

pub runs_on : (limits : Limits) (phones : List AddressValue) (events : List script.Event) (n : ℕ) (e : script.Event) (told : List Told) (t : Told) (old new : WorldValue)
    → slice_get events n ≡ Some e → length told ≡ n → Steps (event_of e) old t new → Runs limits phones (take n events) told old → Runs limits phones (take (n + 1) events) (told ++ t ∷ []) new
runs_on limits phones events n e told t old new there size steps r =
    let s = steps r.1.0 r.1.2 in
    let same : length told ≡ length (take n events) = size ∙ sym (length_taken events n e there) in
    let next : suc n ≡ n + 1 = omega arith in
    let taken : take n events ++ e ∷ [] ≡ take (n + 1) events = sym (take_next events n e there) ∙ ap (λ k. take k events) next in
    let sizes : length (told ++ t ∷ []) ≡ length (take (n + 1) events) =
    length_push told t ∙ ap (λ k. k + 1) same ∙ sym (length_push (take n events) e) ∙ ap length taken in
    let past : (event_of e, t) ∷ told_past (take n events) told ≡ told_past (take (n + 1) events) (told ++ t ∷ []) =
    sym (told_more (take n events) told e t same) ∙ ap (λ l. told_past l (told ++ t ∷ [])) taken in
    (sizes, (s.1, subst (λ p. Run (start limits phones) p s.1) past (r.1.0, r.1.1, tt, (s.0, s.2)), s.3))

pub goes_at_first : (events : List script.Event) (told : List Told) (world : WorldValue) → told ≡ [] → GoesOn (take 0 events) told world world
goes_at_first events told world none = subst (λ t. GoesOn (take 0 events) t world world) (sym none) (λ limits phones stands. (refl, (start limits phones, refl, stands)))

-- ---- in a watched world

pub watched_on : (limits : Limits) (phones : List AddressValue) (events : List script.Event) (n : ℕ) (e : script.Event) (told : List Told) (t : Told) (old new : WatchedValue)
    → slice_get events n ≡ Some e → length told ≡ n → GoesOnWatched (event_of e) old t new → RunsWatched limits phones (take n events) told old
    → RunsWatched limits phones (take (n + 1) events) (told ++ t ∷ []) new
watched_on limits phones events n e told t old new there size goes r =
    let same : length told ≡ length (take n events) = size ∙ sym (length_taken events n e there) in
    let next : suc n ≡ n + 1 = omega arith in
    let taken : take n events ++ e ∷ [] ≡ take (n + 1) events = sym (take_next events n e there) ∙ ap (λ k. take k events) next in
    let sizes : length (told ++ t ∷ []) ≡ length (take (n + 1) events) =
    length_push told t ∙ ap (λ k. k + 1) same ∙ sym (length_push (take n events) e) ∙ ap length taken in
    let past : (event_of e, t) ∷ told_past (take n events) told ≡ told_past (take (n + 1) events) (told ++ t ∷ []) =
    sym (told_more (take n events) told e t same) ∙ ap (λ l. told_past l (told ++ t ∷ [])) taken in
    (sizes, subst (λ p. ComesOf limits phones p new) past (goes limits phones (told_past (take n events) told) r.1))

pub watched_at_first : (events : List script.Event) (told : List Told) (w : WatchedValue) → told ≡ [] → AllGoOnWatched (take 0 events) told w w
watched_at_first events told w none = subst (λ t. AllGoOnWatched (take 0 events) t w w) (sym none) (λ limits phones c. (refl, c))

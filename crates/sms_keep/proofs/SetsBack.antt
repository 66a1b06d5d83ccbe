-- Sets, put back one after another.
use Rattle.std.proofs.Common.{◌≡◌, ℕ, ◌+◌, ◌<◌, ◌≤◌, false, List, [], ◌∷◌, ◌++◌, map, length, take, drop, get_or, refl, sym, ap, subst, ◌∙◌, append_assoc, arith, length-append}
use Rattle.std.proofs.lemmas.List.{append-nil, map-append, length-map}
use Rattle.std.specs.List.{AllByRecursion}
use Rattle.sms_join.specs.declared.key.Key.{Key}
use Rattle.sms_join.specs.Joiner.{is_among as is_remembered}
use Rattle.sms_join.specs.OpenSets.{SetValue, has_set, all_pieces}
use Rattle.sms_join.specs.Gateway.Value.{GatewayValue}
use Rattle.sms_saved.specs.Fits.{AreApart, SetFits, set_keys, remembered_keys}
use Rattle.std.specs.Prelude.{true, Option, Some, None, is_none}
use Rattle.sms_saved.specs.declared.state.Key.{Key as SavedKey}
use Rattle.sms_saved.specs.declared.state.OpenSet.{OpenSet}
use Rattle.sms_saved.specs.Value.{SetValue as SavedSet, StateValue, view_set, view_sets}
use Rattle.sms_keep.specs.declared.fault.Fault.{Fault}
use Rattle.sms_keep.specs.declared.fault.HeldFault.TheVariants.{Address}
use Rattle.sms_keep.specs.Saved.{saved_key, saved_set, saved_finishings}
use Rattle.sms_keep.specs.Held.{KeyIsSpelled, HasAddresses, SetsHaveAddresses, unnumbered}
use Rattle.sms_keep.specs.Restored.{place_of_set, IsBadSet}
use Rattle.sms_keep.specs.Inside.Restoring.{IsKeyOf}
use Rattle.sms_keep.specs.Inside.SetsBack.{IsNewKey, SetsAreNew, IsPut, ArePut, IsHindered, OneIsHindered}
use Rattle.sms_keep.proofs.Apart.{set_is_closed, set_is_fresh}
use Rattle.sms_keep.proofs.KeysBack.{all_more, saved_has}
use Rattle.sms_keep.proofs.Lengths.{list_split, list_more, map_at}

abbrev pub line_of : List SetValue → List SavedSet
line_of told = map (λ t. unnumbered (saved_set t)) told

-- Of all these sets the rest is still to be put back.
pub record Placed (old g : GatewayValue) (all rest : List SavedSet) : Type 0 where
  pub before : List SavedSet
  pub parts : all ≡ before ++ rest
  pub are_new : SetsAreNew old before
  pub line : line_of g.told ++ map unnumbered rest ≡ map unnumbered all
  pub fits : AllByRecursion SetFits rest
  pub spelled : AllByRecursion (λ t. KeyIsSpelled t.key) g.told
  pub kept : g.holds.kept ≡ all_pieces g.told
  pub finished : g.holds.finished ≡ old.holds.finished
  pub finishings : g.finishings ≡ old.finishings
  pub limits : g.limits ≡ old.limits

pub none_placed : (g : GatewayValue) (all : List SavedSet) → g.told ≡ [] → g.holds.kept ≡ [] → AllByRecursion SetFits all → Placed g g all all
none_placed g all none kept fits =
    record {
      before = [];
      parts = refl;
      are_new = tt;
      line = ap (λ (ts : List SetValue). line_of ts ++ map unnumbered all) none;
      fits = fits;
      spelled = subst (λ ts. AllByRecursion (λ (t : SetValue). KeyIsSpelled t.key) ts) (sym none) tt;
      kept = kept ∙ ap all_pieces (sym none);
      finished = refl;
      finishings = refl;
      limits = refl;
    }

pub few_placed : (old g : GatewayValue) (all rest : List SavedSet) (own : SavedSet) → Placed old g all (own ∷ rest) → length all ≤ old.limits.open_max → length g.told < g.limits.open_max
few_placed old g all rest own h few =
    let a = ap length h.line in
    let b = length-append (line_of g.told) (map unnumbered (own ∷ rest)) in
    let c = length-map g.told (λ (t : SetValue). unnumbered (saved_set t)) in
    let d = length-map all unnumbered in
    let e : g.limits.open_max ≡ old.limits.open_max = ap (λ l. l.open_max) h.limits in
    omega (arith, a, b, c, d, e, few)

pub closed_placed : (old g : GatewayValue) (all rest : List SavedSet) (own : SavedSet) → Placed old g all (own ∷ rest)
    → AreApart [] (set_keys all) → (k : Key) → saved_key k ≡ own.key → has_set g.told k ≡ false
closed_placed old g all rest own h apart k e =
    set_is_closed g.told own rest all [] k h.line (subst (AreApart []) (sym (append-nil (set_keys all))) apart) e

pub one_placed : (old g h : GatewayValue) (all rest : List SavedSet) (own : SavedSet) → Placed old g all (own ∷ rest) → IsPut g h own → Placed old h all rest
one_placed old g h all rest own was put =
    let t = put.told.0 in
    let told = put.told.1 in
    let same = put.told.2 in
    let key : IsNewKey old own.key =
    record {
      own = put.is_new.own;
      saved = put.is_new.saved;
      fresh = ap (λ (ks : List Key). is_remembered ks put.is_new.own) (sym was.finished) ∙ put.is_new.fresh;
    } in
    record {
      before = was.before ++ own ∷ [];
      parts = was.parts ∙ sym (append_assoc was.before (own ∷ []) rest);
      are_new = all_more (λ (s : SavedSet). IsNewKey old s.key) was.before own was.are_new key;
      line =
          ap (λ (ts : List SetValue). line_of ts ++ map unnumbered rest) told
          ∙ (ap (λ (ss : List SavedSet). ss ++ map unnumbered rest) (map-append (λ (t : SetValue). unnumbered (saved_set t)) g.told (t ∷ []))
          ∙ (append_assoc (line_of g.told) (unnumbered (saved_set t) ∷ []) (map unnumbered rest)
          ∙ (ap (λ (s : SavedSet). line_of g.told ++ s ∷ map unnumbered rest) same
          ∙ was.line)));
      fits = was.fits.1;
      spelled =
          subst (λ ts. AllByRecursion (λ (t : SetValue). KeyIsSpelled t.key) ts) (sym told)
          (all_more (λ (t : SetValue). KeyIsSpelled t.key) g.told t was.spelled put.told.3);
      kept = put.kept;
      finished = put.finished ∙ was.finished;
      finishings = put.finishings ∙ was.finishings;
      limits = put.limits ∙ was.limits;
    }

pub all_placed : (old g : GatewayValue) (all : List SavedSet) → Placed old g all [] → ArePut old g all
all_placed old g all h =
    record {
      are_new = subst (SetsAreNew old) (sym (h.parts ∙ append-nil h.before)) h.are_new;
      sets = sym (append-nil (line_of g.told)) ∙ h.line;
      spelled = h.spelled;
      kept = h.kept;
      finished = h.finished;
      finishings = h.finishings;
      limits = h.limits;
    }

pub one_hindered : (old g : GatewayValue) (all rest : List SavedSet) (own : SavedSet) → Placed old g all (own ∷ rest) → IsHindered g own.key → OneIsHindered old all
one_hindered old g all rest own h why =
    record {
      before = h.before;
      own = own;
      after = rest;
      parts = h.parts;
      why =
          λ has.
          let k = why has in
          record { own = k.own; saved = k.saved; known = ap (λ (ks : List Key). is_remembered ks k.own) (sym h.finished) ∙ k.known };
    }

-- ---- of a state that can be held none is hindered

one_among : {X : Type 0} (P : X → Type 0) (xs : List X) (x : X) (ys : List X) → AllByRecursion P (xs ++ x ∷ ys) → P x
one_among P [] x ys h = h.0
one_among P (z ∷ xs) x ys h = one_among P xs x ys h.1

pub none_hindered : (g : GatewayValue) (all : List SavedSet) → length g.finishings ≡ length g.holds.finished → SetsHaveAddresses all
    → AreApart [] (set_keys all ++ remembered_keys (saved_finishings g.holds.finished g.finishings)) → OneIsHindered g all → ⊥
none_hindered g all many addresses apart h =
    let has : HasAddresses h.own.key = one_among (λ (s : SavedSet). HasAddresses s.key) h.before h.own h.after (subst SetsHaveAddresses h.parts addresses) in
    let k = h.why has in
    set_is_fresh all h.before h.own h.after g.holds.finished g.finishings k.own h.parts many apart k.saved k.known

-- ---- which set has no addresses

pub one_has : (xs : List OpenSet) (i : ℕ) (x : OpenSet) → i < length xs → x ≡ get_or xs i x → SetsHaveAddresses (take i (view_sets xs)) → HasAddresses x.key
    → SetsHaveAddresses (take (i + 1) (view_sets xs))
one_has xs i x l is was has =
    let many = length-map xs view_set in
    subst SetsHaveAddresses (sym (list_more (view_sets xs) i (view_set x) (omega (arith, l, many)) (map_at view_set xs i x l is)))
    (all_more (λ (s : SavedSet). HasAddresses s.key) (take i (view_sets xs)) (view_set x) was has)

pub bad_set : (s : StateValue) (xs : List OpenSet) (i place : ℕ) (x : OpenSet) → s.sets ≡ view_sets xs → i < length xs → x ≡ get_or xs i x
    → SetsHaveAddresses (take i s.sets) → ¬ HasAddresses x.key → place ≡ place_of_set s (take i s.sets) → IsBadSet s (record { place = place; why = Address })
bad_set s xs i place x same l is good bad at =
    let many = length-map xs view_set in
    record {
      before = take i s.sets;
      own = view_set x;
      after = drop (i + 1) s.sets;
      parts =
          subst (λ ss. ss ≡ take i ss ++ view_set x ∷ drop (i + 1) ss) (sym same)
          (list_split (view_sets xs) i (view_set x) (omega (arith, l, many)) (map_at view_set xs i x l is));
      good = good;
      bad = bad;
      fault = ap (λ (n : ℕ). let f : Fault = record { place = n; why = Address } in f) at;
    }

pub key_none : (k : SavedKey) (own : Option Key) → is_none own ≡ true → IsKeyOf k own → ¬ HasAddresses k
key_none k None e h = h
key_none k (Some own) e h = absurd cc

pub key_some : (k : SavedKey) (own : Option Key) → is_none own ≡ false → IsKeyOf k own → HasAddresses k
key_some k None e h = absurd cc
key_some k (Some own) e h = saved_has k own h

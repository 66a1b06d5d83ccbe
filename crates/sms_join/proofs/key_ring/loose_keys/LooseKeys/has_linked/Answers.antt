use Rattle.std.proofs.Common.{◌≡◌, ◌<◌, ℕ, Bool, false, List, take, length, reverse, get_or, sym, ap, ◌∙◌, subst, arith}
use Rattle.std.proofs.lemmas.List.{length-map, length-take, get_or-take, take-map}
use Rattle.sms_join.specs.declared.key.Key.{Key}
use Rattle.sms_join.specs.Joiner.{is_among}
use Rattle.sms_join.specs.Inside.KeyHashes.{hash_of}
use Rattle.sms_join.specs.Inside.LooseKeys.{LooseKeysValue}
use Rattle.sms_join.proofs.LooseSearch.{loose, loose_chained, loose_first, loose_met, loose_other, loose_elsewhere, linked_at}
use Rattle.sms_join.proofs.RingHashes.{hash_at, there_at}
use Rattle.sms_join.proofs.RingPlaces.{head_at}
use Rattle.sms_join.proofs.RingSearch.{Sought, is_met, sought_within, sought_found, sought_next, sought_end}
use Rattle.sms_join.proofs.key_ring.loose_keys.LooseKeys.has_linked.Goals.{else-index-hash-via-then-index-hash+else-is_same, else-index-hash-via-else-index-hash}
use Rattle.sms_join.proofs.key_ring.loose_keys.LooseKeys.has_linked.Goals as goal

pub loop-place-init : goal.loop-place-init
loop-place-init c =
    let s = c.self.inside in
    let k = c.args.key.now in
    let ks : List Key = take (length s.next.items) s.keys.items in
    subst (λ (b : Bool). Sought ks s.next.items b (loose k ks) c.index-place.result.now)
    (ap (λ (v : LooseKeysValue). is_among (reverse (take v.linked v.keys)) k) c.self.view_is)
    (loose_first (hash_of s.hashing) s.keys.capacity ks s.next.items s.heads.items
    (loose_chained (hash_of s.hashing) s.keys.capacity (length s.next.items) s.hashes.items s.keys.items s.next.items s.heads.items c.self.invariant.0 c.self.invariant.1)
    k c.head_of.result c.len.result c.index-place.result.now
    (head_at c.head_of.result c.len.result c.args.hash (hash_of s.hashing k) c.head_of.ensures.is
    (c.requires ∙ ap (λ (v : LooseKeysValue). hash_of v.hashing k) (sym c.self.view_is)))
    c.head_of.ensures.within (c.len.ensures ∙ s.heads.ok.0) c.index-place.ensures)

pub index-requires : goal.index-requires
index-requires c =
    let s = c.self.inside in
    let w = sought_within
    (loose_chained (hash_of s.hashing) s.keys.capacity (length s.next.items) s.hashes.items s.keys.items s.next.items s.heads.items c.self.invariant.0 c.self.invariant.1)
    (is_among (reverse (take c.args.self.now.linked c.args.self.now.keys)) c.args.key.now)
    (loose c.args.key.now (take (length s.next.items) s.keys.items))
    c.loop-place.place c.loop-place.invariant c.loop-place-test.true in
    omega (arith, w.0, length-take (length s.next.items) s.keys.items, ap (λ (l : List ℕ). length l) c.self.invariant.1, length-map s.keys.items (hash_of s.hashing), s.hashes.ok.0)

pub key_at-requires : goal.key_at-requires
key_at-requires c =
    let s = c.self.inside in
    let w = sought_within
    (loose_chained (hash_of s.hashing) s.keys.capacity (length s.next.items) s.hashes.items s.keys.items s.next.items s.heads.items c.self.invariant.0 c.self.invariant.1)
    (is_among (reverse (take c.args.self.now.linked c.args.self.now.keys)) c.args.key.now)
    (loose c.args.key.now (take (length s.next.items) s.keys.items))
    c.loop-place.place c.loop-place.invariant c.loop-place-test.true in
    omega (arith, w.0, length-take (length s.next.items) s.keys.items, ap (λ (v : LooseKeysValue). length v.keys) c.self.view_is)

pub returns-then-is_same : goal.returns-then-is_same
returns-then-is_same c =
    let s = c.self.inside in
    let ks : List Key = take (length s.next.items) s.keys.items in
    let w = sought_within
    (loose_chained (hash_of s.hashing) s.keys.capacity (length s.next.items) s.hashes.items s.keys.items s.next.items s.heads.items c.self.invariant.0 c.self.invariant.1)
    (is_among (reverse (take c.args.self.now.linked c.args.self.now.keys)) c.args.key.now)
    (loose c.args.key.now (take (length s.next.items) s.keys.items))
    c.loop-place.place c.loop-place.invariant c.loop-place-test.true in
    sought_found
    (loose_chained (hash_of s.hashing) s.keys.capacity (length s.next.items) s.hashes.items s.keys.items s.next.items s.heads.items c.self.invariant.0 c.self.invariant.1)
    (is_among (reverse (take c.args.self.now.linked c.args.self.now.keys)) c.args.key.now)
    (loose c.args.key.now (take (length s.next.items) s.keys.items))
    c.loop-place.place c.loop-place.invariant c.loop-place-test.true
    c.key_at.result.now
    (linked_at s.keys.items (length s.next.items) c.loop-place.place c.key_at.result.now (omega (arith, w.0, length-take (length s.next.items) s.keys.items))
    (c.key_at.ensures ∙ ap (λ (v : LooseKeysValue). get_or v.keys c.loop-place.place c.key_at.result.now) (sym c.self.view_is)))
    (loose_met c.args.key.now c.key_at.result.now ks c.loop-place.place w.0 (sym c.is_same.ensures ∙ c.if-is_same.true))

pub index-place-requires-in-loop-place : goal.index-place-requires-in-loop-place
index-place-requires-in-loop-place c =
    let s = c.self.inside in
    let w = sought_within
    (loose_chained (hash_of s.hashing) s.keys.capacity (length s.next.items) s.hashes.items s.keys.items s.next.items s.heads.items c.self.invariant.0 c.self.invariant.1)
    (is_among (reverse (take c.args.self.now.linked c.args.self.now.keys)) c.args.key.now)
    (loose c.args.key.now (take (length s.next.items) s.keys.items))
    c.loop-place.place c.loop-place.invariant c.loop-place-test.true in
    omega (arith, w.1, s.next.ok.0)

pub loop-place-smaller : goal.loop-place-smaller
loop-place-smaller c =
    let s = c.self.inside in
    let k = c.args.key.now in
    let ks : List Key = take (length s.next.items) s.keys.items in
    let w = sought_within
    (loose_chained (hash_of s.hashing) s.keys.capacity (length s.next.items) s.hashes.items s.keys.items s.next.items s.heads.items c.self.invariant.0 c.self.invariant.1)
    (is_among (reverse (take c.args.self.now.linked c.args.self.now.keys)) c.args.key.now)
    (loose c.args.key.now (take (length s.next.items) s.keys.items))
    c.loop-place.place c.loop-place.invariant c.loop-place-test.true in
    let few : c.loop-place.place < length s.next.items = omega (arith, w.0, length-take (length s.next.items) s.keys.items) in
    let past = λ (x : Key) (at : x ≡ get_or ks c.loop-place.place x) (missed : is_met (loose k ks) (c.loop-place.place, x) ≡ false).
    (sought_next
    (loose_chained (hash_of s.hashing) s.keys.capacity (length s.next.items) s.hashes.items s.keys.items s.next.items s.heads.items c.self.invariant.0 c.self.invariant.1)
    (is_among (reverse (take c.args.self.now.linked c.args.self.now.keys)) c.args.key.now)
    (loose c.args.key.now (take (length s.next.items) s.keys.items))
    c.loop-place.place c.loop-place.invariant c.loop-place-test.true
    x at missed c.index-place-in-loop-place.result.now c.index-place-in-loop-place.ensures).1 in
    elim c.else-index-hash.branch [
      | else-index-hash-via-then-index-hash+else-is_same v ↦ past v.key_at.result.now
          (linked_at s.keys.items (length s.next.items) c.loop-place.place v.key_at.result.now few
          (v.key_at.ensures ∙ ap (λ (u : LooseKeysValue). get_or u.keys c.loop-place.place v.key_at.result.now) (sym c.self.view_is)))
          (loose_other k v.key_at.result.now ks c.loop-place.place (sym v.is_same.ensures ∙ v.if-is_same.false))
      | else-index-hash-via-else-index-hash v ↦
          let x : Key = get_or ks c.loop-place.place k in
          past x (there_at ks c.loop-place.place k w.0)
          (loose_elsewhere (hash_of s.hashing) k x ks c.loop-place.place c.index.result.now c.args.hash
          (c.index.ensures ∙ (sym (get_or-take (length s.next.items) s.hashes.items c.loop-place.place c.index.result.now few)
          ∙ hash_at (hash_of s.hashing) (take (length s.next.items) s.hashes.items) ks c.loop-place.place c.index.result.now k
          (ap (take (length s.next.items)) c.self.invariant.1 ∙ take-map (hash_of s.hashing) (length s.next.items) s.keys.items) w.0))
          (c.requires ∙ ap (λ (u : LooseKeysValue). hash_of u.hashing k) (sym c.self.view_is)) v.if-index-hash.false)
    ]

pub loop-place-preserved : goal.loop-place-preserved
loop-place-preserved c =
    let s = c.self.inside in
    let k = c.args.key.now in
    let ks : List Key = take (length s.next.items) s.keys.items in
    let w = sought_within
    (loose_chained (hash_of s.hashing) s.keys.capacity (length s.next.items) s.hashes.items s.keys.items s.next.items s.heads.items c.self.invariant.0 c.self.invariant.1)
    (is_among (reverse (take c.args.self.now.linked c.args.self.now.keys)) c.args.key.now)
    (loose c.args.key.now (take (length s.next.items) s.keys.items))
    c.loop-place.place c.loop-place.invariant c.loop-place-test.true in
    let few : c.loop-place.place < length s.next.items = omega (arith, w.0, length-take (length s.next.items) s.keys.items) in
    let past = λ (x : Key) (at : x ≡ get_or ks c.loop-place.place x) (missed : is_met (loose k ks) (c.loop-place.place, x) ≡ false).
    (sought_next
    (loose_chained (hash_of s.hashing) s.keys.capacity (length s.next.items) s.hashes.items s.keys.items s.next.items s.heads.items c.self.invariant.0 c.self.invariant.1)
    (is_among (reverse (take c.args.self.now.linked c.args.self.now.keys)) c.args.key.now)
    (loose c.args.key.now (take (length s.next.items) s.keys.items))
    c.loop-place.place c.loop-place.invariant c.loop-place-test.true
    x at missed c.index-place-in-loop-place.result.now c.index-place-in-loop-place.ensures).0 in
    elim c.else-index-hash.branch [
      | else-index-hash-via-then-index-hash+else-is_same v ↦ past v.key_at.result.now
          (linked_at s.keys.items (length s.next.items) c.loop-place.place v.key_at.result.now few
          (v.key_at.ensures ∙ ap (λ (u : LooseKeysValue). get_or u.keys c.loop-place.place v.key_at.result.now) (sym c.self.view_is)))
          (loose_other k v.key_at.result.now ks c.loop-place.place (sym v.is_same.ensures ∙ v.if-is_same.false))
      | else-index-hash-via-else-index-hash v ↦
          let x : Key = get_or ks c.loop-place.place k in
          past x (there_at ks c.loop-place.place k w.0)
          (loose_elsewhere (hash_of s.hashing) k x ks c.loop-place.place c.index.result.now c.args.hash
          (c.index.ensures ∙ (sym (get_or-take (length s.next.items) s.hashes.items c.loop-place.place c.index.result.now few)
          ∙ hash_at (hash_of s.hashing) (take (length s.next.items) s.hashes.items) ks c.loop-place.place c.index.result.now k
          (ap (take (length s.next.items)) c.self.invariant.1 ∙ take-map (hash_of s.hashing) (length s.next.items) s.keys.items) w.0))
          (c.requires ∙ ap (λ (u : LooseKeysValue). hash_of u.hashing k) (sym c.self.view_is)) v.if-index-hash.false)
    ]

pub returns : goal.returns
returns c =
    let s = c.self.inside in
    sought_end
    (loose_chained (hash_of s.hashing) s.keys.capacity (length s.next.items) s.hashes.items s.keys.items s.next.items s.heads.items c.self.invariant.0 c.self.invariant.1)
    (is_among (reverse (take c.args.self.now.linked c.args.self.now.keys)) c.args.key.now)
    (loose c.args.key.now (take (length s.next.items) s.keys.items))
    c.loop-place.place c.loop-place.invariant c.loop-place-test.false

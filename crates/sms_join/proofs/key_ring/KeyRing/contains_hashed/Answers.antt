use Rattle.std.proofs.Common.{◌≡◌, false, List, take, get_or, sym, ap, ◌∙◌, arith}
use Rattle.std.specs.Prelude.{option_copied}
use Rattle.sms_join.specs.declared.key.Key.{Key}
use Rattle.sms_join.specs.Piece.{key_to}
use Rattle.sms_join.specs.Joiner.{is_among}
use Rattle.sms_join.specs.Inside.LastKeys.{HashedKeysValue}
use Rattle.sms_join.specs.Inside.KeyHashes.{hash_of}
use Rattle.sms_join.specs.Inside.KeyRings.{laid, came_after}
use Rattle.sms_join.proofs.RingHashes.{chained_keys, hash_at, there_at, as_many_hashes}
use Rattle.sms_join.proofs.RingPlaces.{head_at}
use Rattle.sms_join.proofs.RingKeys.{length-laid, oldest_there, keys_in}
use Rattle.sms_join.proofs.MetKeys.{met_is}
use Rattle.sms_join.proofs.RingSearch.{asked, is_met, met_both, met_early, met_other, met_elsewhere, sought_first, sought_within, sought_found, sought_next, sought_end}
use Rattle.sms_join.proofs.key_ring.KeyRing.contains_hashed.Goals.{then-index-hash+else-found, else-found-via-then-found+else-came_after-last, else-found-via-else-found, else-index-hash}
use Rattle.sms_join.proofs.key_ring.KeyRing.contains_hashed.Goals as goal

pub loop-place-init : goal.loop-place-init
loop-place-init c =
    let s = c.self.inside in
    let chained = (chained_keys (hash_of c.self.inside.hashing) c.self.inside.keys.capacity c.self.inside.oldest c.self.inside.hashes.items (laid c.self.inside.oldest c.self.inside.keys.items) c.self.inside.next.items c.self.inside.heads.items c.self.invariant.0 c.self.invariant.1) in
    sought_first (hash_of s.hashing) s.keys.capacity s.oldest (laid s.oldest s.keys.items) s.next.items s.heads.items chained
    (is_among (take c.args.last c.args.self.now.keys) (key_to (option_copied c.args.to) c.args.origin.now c.args.stamp c.args.concat))
    (asked (key_to (option_copied c.args.to) c.args.origin.now c.args.stamp c.args.concat) c.args.last c.self.inside.oldest c.self.inside.keys.items) c.head_of.result c.len.result c.index-place.result.now
    (ap (λ (v : HashedKeysValue). is_among (take c.args.last v.keys) (key_to (option_copied c.args.to) c.args.origin.now c.args.stamp c.args.concat)) (sym c.self.view_is)
    ∙ (ap (λ (ks : List Key). is_among (take c.args.last ks) (key_to (option_copied c.args.to) c.args.origin.now c.args.stamp c.args.concat)) (sym (keys_in s.keys.items chained))
    ∙ met_is s.oldest (laid s.oldest s.keys.items) (omega (arith, length-laid s.oldest s.keys.items, oldest_there s.keys.items chained)) (key_to (option_copied c.args.to) c.args.origin.now c.args.stamp c.args.concat) c.args.last))
    (head_at c.head_of.result c.len.result c.args.hash (hash_of s.hashing (key_to (option_copied c.args.to) c.args.origin.now c.args.stamp c.args.concat)) c.head_of.ensures.is
    (c.requires ∙ ap (λ (v : HashedKeysValue). hash_of v.hashing (key_to (option_copied c.args.to) c.args.origin.now c.args.stamp c.args.concat)) (sym c.self.view_is))) c.head_of.ensures.within (c.len.ensures ∙ s.heads.ok.0) c.index-place.ensures

pub index-requires : goal.index-requires
index-requires c =
    let s = c.self.inside in
    let w = sought_within (chained_keys (hash_of c.self.inside.hashing) c.self.inside.keys.capacity c.self.inside.oldest c.self.inside.hashes.items (laid c.self.inside.oldest c.self.inside.keys.items) c.self.inside.next.items c.self.inside.heads.items c.self.invariant.0 c.self.invariant.1)
    (is_among (take c.args.last c.args.self.now.keys) (key_to (option_copied c.args.to) c.args.origin.now c.args.stamp c.args.concat))
    (asked (key_to (option_copied c.args.to) c.args.origin.now c.args.stamp c.args.concat) c.args.last c.self.inside.oldest c.self.inside.keys.items)
    c.loop-place.place c.loop-place.invariant c.loop-place-test.true in
    omega (arith, w.0, length-laid s.oldest s.keys.items, as_many_hashes (hash_of s.hashing) s.oldest s.hashes.items s.keys.items c.self.invariant.1, s.hashes.ok.0)

pub key_at-key-requires-clause-oldest : goal.key_at-key-requires-clause-oldest
key_at-key-requires-clause-oldest c = oldest_there c.self.inside.keys.items (chained_keys (hash_of c.self.inside.hashing) c.self.inside.keys.capacity c.self.inside.oldest c.self.inside.hashes.items (laid c.self.inside.oldest c.self.inside.keys.items) c.self.inside.next.items c.self.inside.heads.items c.self.invariant.0 c.self.invariant.1)

pub key_at-key-requires-clause-place : goal.key_at-key-requires-clause-place
key_at-key-requires-clause-place c =
    let s = c.self.inside in
    let w = sought_within (chained_keys (hash_of c.self.inside.hashing) c.self.inside.keys.capacity c.self.inside.oldest c.self.inside.hashes.items (laid c.self.inside.oldest c.self.inside.keys.items) c.self.inside.next.items c.self.inside.heads.items c.self.invariant.0 c.self.invariant.1)
    (is_among (take c.args.last c.args.self.now.keys) (key_to (option_copied c.args.to) c.args.origin.now c.args.stamp c.args.concat))
    (asked (key_to (option_copied c.args.to) c.args.origin.now c.args.stamp c.args.concat) c.args.last c.self.inside.oldest c.self.inside.keys.items)
    c.loop-place.place c.loop-place.invariant c.loop-place-test.true in
    omega (arith, w.0, length-laid s.oldest s.keys.items)

pub came_after-requires-clause-place : goal.came_after-requires-clause-place
came_after-requires-clause-place c =
    let s = c.self.inside in
    let w = sought_within (chained_keys (hash_of c.self.inside.hashing) c.self.inside.keys.capacity c.self.inside.oldest c.self.inside.hashes.items (laid c.self.inside.oldest c.self.inside.keys.items) c.self.inside.next.items c.self.inside.heads.items c.self.invariant.0 c.self.invariant.1)
    (is_among (take c.args.last c.args.self.now.keys) (key_to (option_copied c.args.to) c.args.origin.now c.args.stamp c.args.concat))
    (asked (key_to (option_copied c.args.to) c.args.origin.now c.args.stamp c.args.concat) c.args.last c.self.inside.oldest c.self.inside.keys.items)
    c.loop-place.place c.loop-place.invariant c.loop-place-test.true in
    omega (arith, w.0, length-laid s.oldest s.keys.items, c.len-count.ensures.len)

pub returns-then-came_after-last : goal.returns-then-came_after-last
returns-then-came_after-last c =
    let s = c.self.inside in
    sought_found (chained_keys (hash_of c.self.inside.hashing) c.self.inside.keys.capacity c.self.inside.oldest c.self.inside.hashes.items (laid c.self.inside.oldest c.self.inside.keys.items) c.self.inside.next.items c.self.inside.heads.items c.self.invariant.0 c.self.invariant.1)
    (is_among (take c.args.last c.args.self.now.keys) (key_to (option_copied c.args.to) c.args.origin.now c.args.stamp c.args.concat))
    (asked (key_to (option_copied c.args.to) c.args.origin.now c.args.stamp c.args.concat) c.args.last c.self.inside.oldest c.self.inside.keys.items)
    c.loop-place.place c.loop-place.invariant c.loop-place-test.true
    c.key_at-key.result.now c.key_at-key.ensures
    (met_both (asked (key_to (option_copied c.args.to) c.args.origin.now c.args.stamp c.args.concat) c.args.last c.self.inside.oldest c.self.inside.keys.items) c.loop-place.place c.key_at-key.result.now c.came_after.result (sym c.is_of-found.ensures ∙ c.if-found.true)
    (c.came_after.ensures ∙ ap (λ n. came_after s.oldest n c.loop-place.place) (c.len-count.ensures.len ∙ sym (length-laid s.oldest s.keys.items))) c.if-came_after-last.true)

pub index-place-requires-in-loop-place : goal.index-place-requires-in-loop-place
index-place-requires-in-loop-place c =
    let w = sought_within (chained_keys (hash_of c.self.inside.hashing) c.self.inside.keys.capacity c.self.inside.oldest c.self.inside.hashes.items (laid c.self.inside.oldest c.self.inside.keys.items) c.self.inside.next.items c.self.inside.heads.items c.self.invariant.0 c.self.invariant.1)
    (is_among (take c.args.last c.args.self.now.keys) (key_to (option_copied c.args.to) c.args.origin.now c.args.stamp c.args.concat))
    (asked (key_to (option_copied c.args.to) c.args.origin.now c.args.stamp c.args.concat) c.args.last c.self.inside.oldest c.self.inside.keys.items)
    c.loop-place.place c.loop-place.invariant c.loop-place-test.true in
    omega (arith, w.1, c.self.inside.next.ok.0)

pub loop-place-smaller : goal.loop-place-smaller
loop-place-smaller c =
    let s = c.self.inside in
    let past = λ (x : Key) (at : x ≡ get_or (laid s.oldest s.keys.items) c.loop-place.place x) (missed : is_met (asked (key_to (option_copied c.args.to) c.args.origin.now c.args.stamp c.args.concat) c.args.last c.self.inside.oldest c.self.inside.keys.items) (c.loop-place.place, x) ≡ false).
    (sought_next (chained_keys (hash_of c.self.inside.hashing) c.self.inside.keys.capacity c.self.inside.oldest c.self.inside.hashes.items (laid c.self.inside.oldest c.self.inside.keys.items) c.self.inside.next.items c.self.inside.heads.items c.self.invariant.0 c.self.invariant.1)
    (is_among (take c.args.last c.args.self.now.keys) (key_to (option_copied c.args.to) c.args.origin.now c.args.stamp c.args.concat))
    (asked (key_to (option_copied c.args.to) c.args.origin.now c.args.stamp c.args.concat) c.args.last c.self.inside.oldest c.self.inside.keys.items)
    c.loop-place.place c.loop-place.invariant c.loop-place-test.true x at missed
    c.index-place-in-loop-place.result.now c.index-place-in-loop-place.ensures).1 in
    elim c.if-index-hash.branch [
      | then-index-hash+else-found w ↦ past w.key_at-key.result.now w.key_at-key.ensures
          (elim w.else-found.branch [
            | else-found-via-then-found+else-came_after-last v ↦ met_early (asked (key_to (option_copied c.args.to) c.args.origin.now c.args.stamp c.args.concat) c.args.last c.self.inside.oldest c.self.inside.keys.items) c.loop-place.place w.key_at-key.result.now v.came_after.result
                (v.came_after.ensures ∙ ap (λ n. came_after s.oldest n c.loop-place.place) (c.len-count.ensures.len ∙ sym (length-laid s.oldest s.keys.items))) v.if-came_after-last.false
            | else-found-via-else-found v ↦ met_other (asked (key_to (option_copied c.args.to) c.args.origin.now c.args.stamp c.args.concat) c.args.last c.self.inside.oldest c.self.inside.keys.items) c.loop-place.place w.key_at-key.result.now (sym w.is_of-found.ensures ∙ v.if-found.false)
          ])
      | else-index-hash w ↦
          let within = sought_within (chained_keys (hash_of c.self.inside.hashing) c.self.inside.keys.capacity c.self.inside.oldest c.self.inside.hashes.items (laid c.self.inside.oldest c.self.inside.keys.items) c.self.inside.next.items c.self.inside.heads.items c.self.invariant.0 c.self.invariant.1)
          (is_among (take c.args.last c.args.self.now.keys) (key_to (option_copied c.args.to) c.args.origin.now c.args.stamp c.args.concat))
          (asked (key_to (option_copied c.args.to) c.args.origin.now c.args.stamp c.args.concat) c.args.last c.self.inside.oldest c.self.inside.keys.items)
          c.loop-place.place c.loop-place.invariant c.loop-place-test.true in
          let x : Key = get_or (laid s.oldest s.keys.items) c.loop-place.place (key_to (option_copied c.args.to) c.args.origin.now c.args.stamp c.args.concat) in
          past x (there_at (laid s.oldest s.keys.items) c.loop-place.place (key_to (option_copied c.args.to) c.args.origin.now c.args.stamp c.args.concat) within.0)
          (met_elsewhere (hash_of s.hashing) (asked (key_to (option_copied c.args.to) c.args.origin.now c.args.stamp c.args.concat) c.args.last c.self.inside.oldest c.self.inside.keys.items) c.loop-place.place x c.index.result.now c.args.hash
          (c.index.ensures ∙ hash_at (hash_of s.hashing) s.hashes.items (laid s.oldest s.keys.items) c.loop-place.place c.index.result.now (key_to (option_copied c.args.to) c.args.origin.now c.args.stamp c.args.concat) c.self.invariant.1 within.0)
          (c.requires ∙ ap (λ (v : HashedKeysValue). hash_of v.hashing (key_to (option_copied c.args.to) c.args.origin.now c.args.stamp c.args.concat)) (sym c.self.view_is)) w.if-index-hash.false)
    ]

pub loop-place-preserved : goal.loop-place-preserved
loop-place-preserved c =
    let s = c.self.inside in
    let past = λ (x : Key) (at : x ≡ get_or (laid s.oldest s.keys.items) c.loop-place.place x) (missed : is_met (asked (key_to (option_copied c.args.to) c.args.origin.now c.args.stamp c.args.concat) c.args.last c.self.inside.oldest c.self.inside.keys.items) (c.loop-place.place, x) ≡ false).
    (sought_next (chained_keys (hash_of c.self.inside.hashing) c.self.inside.keys.capacity c.self.inside.oldest c.self.inside.hashes.items (laid c.self.inside.oldest c.self.inside.keys.items) c.self.inside.next.items c.self.inside.heads.items c.self.invariant.0 c.self.invariant.1)
    (is_among (take c.args.last c.args.self.now.keys) (key_to (option_copied c.args.to) c.args.origin.now c.args.stamp c.args.concat))
    (asked (key_to (option_copied c.args.to) c.args.origin.now c.args.stamp c.args.concat) c.args.last c.self.inside.oldest c.self.inside.keys.items)
    c.loop-place.place c.loop-place.invariant c.loop-place-test.true x at missed
    c.index-place-in-loop-place.result.now c.index-place-in-loop-place.ensures).0 in
    elim c.if-index-hash.branch [
      | then-index-hash+else-found w ↦ past w.key_at-key.result.now w.key_at-key.ensures
          (elim w.else-found.branch [
            | else-found-via-then-found+else-came_after-last v ↦ met_early (asked (key_to (option_copied c.args.to) c.args.origin.now c.args.stamp c.args.concat) c.args.last c.self.inside.oldest c.self.inside.keys.items) c.loop-place.place w.key_at-key.result.now v.came_after.result
                (v.came_after.ensures ∙ ap (λ n. came_after s.oldest n c.loop-place.place) (c.len-count.ensures.len ∙ sym (length-laid s.oldest s.keys.items))) v.if-came_after-last.false
            | else-found-via-else-found v ↦ met_other (asked (key_to (option_copied c.args.to) c.args.origin.now c.args.stamp c.args.concat) c.args.last c.self.inside.oldest c.self.inside.keys.items) c.loop-place.place w.key_at-key.result.now (sym w.is_of-found.ensures ∙ v.if-found.false)
          ])
      | else-index-hash w ↦
          let within = sought_within (chained_keys (hash_of c.self.inside.hashing) c.self.inside.keys.capacity c.self.inside.oldest c.self.inside.hashes.items (laid c.self.inside.oldest c.self.inside.keys.items) c.self.inside.next.items c.self.inside.heads.items c.self.invariant.0 c.self.invariant.1)
          (is_among (take c.args.last c.args.self.now.keys) (key_to (option_copied c.args.to) c.args.origin.now c.args.stamp c.args.concat))
          (asked (key_to (option_copied c.args.to) c.args.origin.now c.args.stamp c.args.concat) c.args.last c.self.inside.oldest c.self.inside.keys.items)
          c.loop-place.place c.loop-place.invariant c.loop-place-test.true in
          let x : Key = get_or (laid s.oldest s.keys.items) c.loop-place.place (key_to (option_copied c.args.to) c.args.origin.now c.args.stamp c.args.concat) in
          past x (there_at (laid s.oldest s.keys.items) c.loop-place.place (key_to (option_copied c.args.to) c.args.origin.now c.args.stamp c.args.concat) within.0)
          (met_elsewhere (hash_of s.hashing) (asked (key_to (option_copied c.args.to) c.args.origin.now c.args.stamp c.args.concat) c.args.last c.self.inside.oldest c.self.inside.keys.items) c.loop-place.place x c.index.result.now c.args.hash
          (c.index.ensures ∙ hash_at (hash_of s.hashing) s.hashes.items (laid s.oldest s.keys.items) c.loop-place.place c.index.result.now (key_to (option_copied c.args.to) c.args.origin.now c.args.stamp c.args.concat) c.self.invariant.1 within.0)
          (c.requires ∙ ap (λ (v : HashedKeysValue). hash_of v.hashing (key_to (option_copied c.args.to) c.args.origin.now c.args.stamp c.args.concat)) (sym c.self.view_is)) w.if-index-hash.false)
    ]

pub returns : goal.returns
returns c =
    sought_end (chained_keys (hash_of c.self.inside.hashing) c.self.inside.keys.capacity c.self.inside.oldest c.self.inside.hashes.items (laid c.self.inside.oldest c.self.inside.keys.items) c.self.inside.next.items c.self.inside.heads.items c.self.invariant.0 c.self.invariant.1)
    (is_among (take c.args.last c.args.self.now.keys) (key_to (option_copied c.args.to) c.args.origin.now c.args.stamp c.args.concat))
    (asked (key_to (option_copied c.args.to) c.args.origin.now c.args.stamp c.args.concat) c.args.last c.self.inside.oldest c.self.inside.keys.items)
    c.loop-place.place c.loop-place.invariant c.loop-place-test.false

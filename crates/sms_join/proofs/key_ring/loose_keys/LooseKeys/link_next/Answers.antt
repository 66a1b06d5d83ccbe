use Rattle.std.proofs.Common.{◌≡◌, ◌≤◌, ◌<◌, ℕ, List, length, ap, ◌∙◌, arith}
use Rattle.std.proofs.lemmas.List.{length-map}
use Rattle.sms_join.specs.Inside.KeyHashes.{hash_of}
use Rattle.sms_join.specs.Inside.LooseKeys.{LooseKeysValue}
use Rattle.sms_join.proofs.LooseSearch.{linked_more}
use Rattle.sms_join.proofs.key_ring.loose_keys.LooseKeys.link_next.Goals as goal

pub invariant_of-self : goal.invariant_of-self
invariant_of-self c =
    let s = c.self.inside in
    let as_many : length s.hashes.items ≡ length s.keys.items = ap (λ (l : List ℕ). length l) c.self.invariant.1 ∙ length-map s.keys.items (hash_of s.hashing) in
    let place : c.len-place.result ≡ length s.next.items = c.len-place.ensures ∙ s.next.ok.0 in
    let there : length s.next.items < length s.keys.items =
    omega (arith, c.requires, ap (λ (v : LooseKeysValue). v.linked) c.self.view_is, ap (λ (v : LooseKeysValue). length v.keys) c.self.view_is) in
    let few : length s.hashes.items ≤ s.keys.capacity = omega (arith, s.hashes.ok, c.self.invariant.3) in (
      linked_more s.keys.capacity c.index-hash.result.now c.len-place.result c.head_of-head.result c.len.result c.index.result.now
          s.hashes.items s.next.items s.heads.items c.push_reserved.new.self.items c.self.invariant.0 place (omega (arith, there, as_many, place)) c.index-hash.ensures few
          c.head_of-head.ensures.is c.head_of-head.ensures.within (c.len.ensures ∙ s.heads.ok.0) c.index.ensures c.push_reserved.ensures.items,
      c.self.invariant.1,
      omega (arith, there, c.push_reserved.ensures.len, c.push_reserved.new.self.ok.0, s.next.ok.0),
      c.self.invariant.3,
      c.push_reserved.ensures.capacity ∙ c.self.invariant.4,
      c.self.invariant.5,
    )

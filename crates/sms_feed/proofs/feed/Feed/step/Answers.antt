use Rattle.std.proofs.Common.{◌≡◌, ◌+◌, ◌-◌, ◌≤◌, ℕ, List, Bool, length, take, drop, refl, sym, ap, ◌∙◌, arith, rules, length-take}
use Rattle.sms_feed.specs.Inside.Ends.{size, octets_in, behind}
use Rattle.sms_feed.proofs.PlaceLemmas.{ends_within, length_within}
use Rattle.sms_feed.proofs.RoomLemmas.{same_value, front_of, behind_of}
use Rattle.sms_feed.proofs.feed.Feed.step.Goals.{then-end, else-end}
use Rattle.sms_feed.proofs.feed.Feed.step.Goals as goal

pub returns : goal.returns
returns c =
    let feed = c.args.self.now in
    let end = c.args.end in
    let inside = c.self.inside in
    let left_is : feed.left ≡ take (inside.end - inside.start) (drop inside.start inside.room.items) = sym (ap (λ v. v.left) c.self.view_is) in
    let within : size end ≤ length feed.left = ends_within feed end c.requires in
    let few_octets : size end ≤ inside.end - inside.start = omega (arith, within, ap length left_is, length-take {A = ℕ}) in
    let moved : c.if-end.self ≡ inside.start + size end = elim c.if-end.branch [
      | then-end w ↦ rw w.if-end.true (omega (arith, w.self-is))
      | else-end w ↦ rw w.if-end.false (omega (arith, w.self-is))
    ] in
    let short : end.length ≤ inside.end - inside.start = omega (arith, length_within feed end c.requires, ap length left_is, length-take {A = ℕ}) in
    let part = front_of inside.room.items feed.left inside.start inside.end end.length left_is short in
    same_value _ (behind feed end) (search rules)
    (ap (λ (l : List ℕ). octets_in inside.is_long end.has_feed l) part ∙ ap (λ (b : Bool). octets_in b end.has_feed (take end.length feed.left)) (ap (λ v. v.is_long) c.self.view_is))
    (behind_of inside.room.items feed.left inside.start inside.end (size end) c.if-end.self left_is few_octets moved) refl (ap (λ v. v.has_ended) c.self.view_is)

use Rattle.std.proofs.Common.{◌≡◌, ℕ, List, [], ◌∷◌, ◌++◌, ◌+◌, length, take, Vec, Global, sym, ap, ◌∙◌, arith}
use Rattle.sms_join.specs.declared.segment.Segment.{Segment}
use Rattle.sms_join.proofs.Ends.{take_next, is_there}
use Rattle.sms_join.proofs.WrittenParts.{one_written_more}
use Rattle.sms_join.proofs.segments.Segments.write_users.Goals.{in-Some+in_ok-put_user+in_ok-push, in_default}
use Rattle.sms_join.proofs.segments.Segments.write_users.Goals as goal

pub loop-index-preserved : goal.loop-index-preserved
loop-index-preserved c = elim c.match-get.branch [
  | in-Some+in_ok-put_user+in_ok-push w ↦
      let segment : Segment = w.in-Some.segment in
      let added = w.in_ok-put_user.ensures in
      let more : List ℕ = added.0 in
      let octets : c.match-get.octets.items ≡ c.loop-index.octets.items ++ more = ap (λ (v : Vec ℕ Global). v.items) w.octets-is ∙ added.2 in
      let size : w.len-in-Some.result ≡ length (c.loop-index.octets.items ++ more) = w.len-in-Some.ensures ∙ w.put_user.new.out.ok.0 ∙ ap length added.2 in
      let ends : c.match-get.ends.items ≡ c.loop-index.ends.items ++ length (c.loop-index.octets.items ++ more) ∷ [] = ap (λ (v : Vec ℕ Global). v.items) w.ends-is ∙ w.in_ok-push.ensures.items ∙ ap (λ (n : ℕ). c.loop-index.ends.items ++ n ∷ []) size in
      let segments : take (c.loop-index.index + 1) c.args.self.now ≡ take c.loop-index.index c.args.self.now ++ segment ∷ [] = take_next c.args.self.now c.loop-index.index segment (sym c.get.ensures.value ∙ w.in-Some.is) in
      rw (segments, octets, ends) (one_written_more c.args.width c.args.reference (take c.loop-index.index c.args.self.now) c.loop-index.octets.items c.loop-index.ends.items more segment added.1 c.loop-index.invariant)
  | in_default w ↦
      absurd (is_there c.args.self.now c.loop-index.index (omega (arith, c.loop-index-test.true, c.len-index-end.ensures.count)) (sym c.get.ensures.value ∙ w.in_default.is))
]

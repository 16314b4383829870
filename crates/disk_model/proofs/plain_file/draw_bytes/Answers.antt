use Rattle.std.proofs.Common.{◌≡◌, ◌≢◌, ◌<◌, ◌%◌, true, false, length, get_or, ap, ◌∙◌, sym, arith, below_more, get_or-set_other, get_or-set_same}
use Rattle.std.proofs.lemmas.Bool.{cond-true, cond-false, lt-ltb, le-ltb}
use Rattle.disk_model.specs.Generator.{next_state, number_of, drawn}
use Rattle.disk_model.specs.Marks.{is_marked}
use Rattle.disk_model.specs.Places.{count_below}
use Rattle.disk_model.proofs.Draws.{state_hit, state_miss}
use Rattle.disk_model.proofs.plain_file.draw_bytes.Goals as goal
use Rattle.disk_model.proofs.plain_file.draw_bytes.Goals.{then-marks-i-gt0, else-marks-i-gt0}

pub loop-i-preserved : goal.loop-i-preserved
loop-i-preserved c =
    let bytes = c.loop-i.bytes in
    let i = c.loop-i.i in
    let seed = c.args.generator.now in
    let marked = is_marked c.args.marks.now in
    let old = c.loop-i.invariant in
    elim c.if-marks-i-gt0.branch [
      | then-marks-i-gt0 w ↦
          let hit : marked i ≡ true = lt-ltb 0 _ (omega arith) in
          let known : i < length bytes = omega arith in
          let drew : w.draw.result % 256 ≡ drawn seed (count_below marked i) % 256 =
          ap (λ n. n % 256) (w.draw.ensures.number ∙ ap (λ state. number_of (next_state state)) old.state) in
          record {
            state = state_hit marked seed i c.loop-i.generator c.if-marks-i-gt0.generator hit old.state (w.generator-is ∙ w.draw.ensures.state);
            done = below_more _ _
                (λ k below. let differs : k ≢ i = omega arith in ap (λ bs. get_or bs k 0) w.bytes-is ∙ get_or-set_other bytes i k (w.draw.result % 256)
                0 differs ∙ old.done k below)
                (ap (λ bs. get_or bs i 0) w.bytes-is ∙ get_or-set_same bytes i (w.draw.result % 256) 0 known ∙ drew ∙ sym (cond-true (marked i) _ _ hit));
            rest = λ k above. let differs : k ≢ i = omega arith in ap (λ bs. get_or bs k 0) w.bytes-is
                ∙ get_or-set_other bytes i k (w.draw.result % 256) 0 differs ∙ old.rest k (omega arith);
          }
      | else-marks-i-gt0 w ↦
          let miss : marked i ≡ false = le-ltb 0 _ (omega arith) in
          record {
            state = w.generator-is ∙ state_miss marked seed i c.loop-i.generator miss old.state;
            done = below_more _ _
                (λ k below. ap (λ bs. get_or bs k 0) w.bytes-is ∙ old.done k below)
                (ap (λ bs. get_or bs i 0) w.bytes-is ∙ old.rest i (omega arith) ∙ sym (cond-false (marked i) _ _ miss));
            rest = λ k above. ap (λ bs. get_or bs k 0) w.bytes-is ∙ old.rest k (omega arith);
          }
    ]

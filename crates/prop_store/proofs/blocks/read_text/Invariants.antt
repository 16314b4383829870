use Rattle.std.proofs.Common.{◌≡◌, ◌≤◌, ◌+◌, ◌-◌, ◌/◌, ◌++◌, ℕ, List, length}
use Rattle.rec_bytes.specs.Format.{strings_file}
use Rattle.store_rules.specs.Properties.{long_text_from}
use Rattle.store_rules.specs.Views.{rec_at}
use Rattle.prop_store.specs.Blocks.{HasText, IsTextOf}
use Rattle.prop_store.specs.GivenOut.{AreGivenOut}
use Rattle.prop_store.specs.Reading.{ReadsAtMost}
use Rattle.prop_store.proofs.Breaches.{TextReached}
use Rattle.prop_store.proofs.TextSteps.{TextLeft}
use Rattle.prop_store.proofs.blocks.read_text.Given as goal

-- the bytes so far and those that are left are all
abbrev pub invariant-loop-left : goal.invariant-loop-left
invariant-loop-left g l =
    let old = g.R.Reads.state l.fn.space in
    let string_file = rec_at old.records strings_file in
    record {
      met : g.R.Reads.tells → l.bytes.items ++ long_text_from string_file l.left l.at ≡ long_text_from string_file l.fn.size l.fn.first;
      not_damaged : g.R.Reads.tells → (text blocks : List ℕ) → HasText string_file l.fn.first l.fn.size text blocks
          → AreGivenOut old.records strings_file blocks
          → TextLeft string_file l.at l.left (λ rest later. AreGivenOut old.records strings_file later);
      reached : g.R.Reads.tells → IsTextOf old.records l.fn.property l.fn.first l.fn.size → TextReached old.records l.fn.property l.from l.at l.left;
      size : length l.bytes.items + l.left ≡ l.fn.size;
      reads : ReadsAtMost ((l.fn.size + 47) / 48 - (l.left + 47) / 48) old (g.R.Reads.state l.space);
      onward : g.R.Reads.onward l.fn.space l.space;
      later : g.R.Reads.faults l.fn.space ≤ g.R.Reads.faults l.space;
    }

abbrev pub decreases-loop-left : goal.decreases-loop-left
decreases-loop-left g l = l.left

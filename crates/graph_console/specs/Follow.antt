-- What `follow SEED COUNT` runs, and what it writes: a follower takes over the lines of a sample.
use Rattle.std.specs.Prelude.{◌≡◌, ◌⊎◌, ℕ, zero, suc, ◌+◌, ◌*◌, ◌%◌, nat_eq, nat_le}
use Rattle.std.specs.Prelude.{if◌then◌else◌, List, ◌++◌, codes, decimal}
use Rattle.disk_model.specs.Generator.{drawn}
use Rattle.plain_graph.specs.Counts.{counts_of}
use Rattle.plain_graph.specs.Lines.{counts_text}
use Rattle.plain_graph.specs.Reply.{NoMemory as WantOfMemory, fault_line, text_line}
use Rattle.console_words.specs.declared.sample_options.SampleOptions.{SampleOptions}
use Rattle.graph_session.specs.Exchange.{Exchange}
use Rattle.graph_session.specs.Snapshots.{SharedState}
use Rattle.graph_console.specs.Run.{Run}
use Rattle.graph_console.specs.Sample.{SampleLines, sample_store}
use Rattle.graph_console.specs.declared.exit.Exit.{Exit}
use Rattle.graph_console.specs.declared.exit.Exit.TheVariants as exits
use Rattle.graph_console.specs.declared.follow.delivered.Delivered.{Delivered}

-- nothing was delivered
abbrev pub none_delivered : Delivered
none_delivered = record { applied = 0; old = 0; gap = 0 }

-- One more was, the shipment of this number. A follower applies the one after the last that it
-- applied; an earlier one is old, and before a later one there is a gap.
abbrev pub deliver : ℕ → Delivered → Delivered
deliver number so_far =
    if nat_le number so_far.applied then record so_far { old = so_far.old + 1 }
    else if nat_eq number (so_far.applied + 1) then
    record so_far { applied = so_far.applied + 1 }
    else record so_far { gap = so_far.gap + 1 }

-- the number of the shipment that a draw picks of so many
abbrev pub picked_number : ℕ → ℕ → ℕ → ℕ
picked_number count x draw = drawn x draw % count + 1

-- so many were delivered that were drawn
unfoldable pub deliver_drawn : ℕ → ℕ → ℕ → Delivered
deliver_drawn count x zero = none_delivered
deliver_drawn count x (suc draws) =
    deliver (picked_number count x draws) (deliver_drawn count x draws)

-- and then the first ones, one after the other
unfoldable pub deliver_first : ℕ → Delivered → Delivered
deliver_first zero so_far = so_far
deliver_first (suc n) so_far = deliver (n + 1) (deliver_first n so_far)

-- what comes of all deliveries: four drawn ones for each shipment, and then each of them once
abbrev pub all_delivered : ℕ → ℕ → Delivered
all_delivered count x = deliver_first count (deliver_drawn count x (4 * count))

-- the line that tells it
abbrev pub delivered_line : Delivered → List ℕ
delivered_line delivered =
    text_line (codes "applied " ++ decimal delivered.applied ++ codes " old "
    ++ decimal delivered.old ++ codes " gap " ++ decimal delivered.gap)

-- The lines of a sample were carried out, and a shipment of each was delivered, drawn by the
-- generator where the sample left it. What comes of the deliveries was written, and the counts of
-- the follower's graph, which is that of the run's last state.
pub record EndsFollow (tells : Type 0) (options : SampleOptions) (written : List ℕ) : Type 0 where
  pub run : List Exchange
  pub last : SharedState
  pub steps : Run tells (sample_store options) run last
  pub generated : SampleLines options.seed options.count run
  pub text :
      written
      ≡ delivered_line (all_delivered options.count generated.last.x)
      ++ text_line (counts_text (counts_of last.writer.committed))

-- What has been written, exit by exit. Where memory lacked, nothing but the line that says so; and
-- where the sink failed, it took a prefix of what one of the other two exits writes.
abbrev pub Follows : Type 0 → SampleOptions → Exit → List ℕ → Type 0
Follows tells options exits.Done written = EndsFollow tells options written
Follows tells options exits.NoMemory written = written ≡ fault_line WantOfMemory
Follows tells options exits.OutputFault written =
    (text : List ℕ) × (EndsFollow tells options text ⊎ (text ≡ fault_line WantOfMemory))
    × (rest : List ℕ) × (text ≡ written ++ rest)
Follows tells options exits.StoreFailed written = ⊥
Follows tells options exits.Usage written = ⊥
Follows tells options exits.InputFault written = ⊥
Follows tells options exits.BadFiles written = ⊥
Follows tells options (exits.ConfigDiffers stored asked) written = ⊥
Follows tells options exits.DiskFault written = ⊥
Follows tells options exits.InputTooLong written = ⊥

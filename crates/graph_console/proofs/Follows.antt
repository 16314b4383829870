-- What a program that has a follower take over a sample writes.
use Rattle.std.proofs.Common.{◌≡◌, ◌⊎◌, ◌∙◌, inl, inr, ℕ, List, ◌++◌, length, take, drop, refl, sym, ap₂, subst, arith}
use Rattle.std.proofs.lemmas.List.{take-append-drop}
use Rattle.disk_model.specs.Contents.{Files}
use Rattle.stream_io.specs.Streams.{TakesFront}
use Rattle.plain_graph.specs.Counts.{counts_of}
use Rattle.plain_graph.specs.Graph.{Graph}
use Rattle.plain_graph.specs.Lines.{counts_text}
use Rattle.plain_graph.specs.Reply.{NoMemory as WantOfMemory, fault_line, text_line}
use Rattle.stored_graph.specs.Stands.{Stands}
use Rattle.stored_graph.proofs.Stands.{newest-stands}
use Rattle.console_words.specs.declared.sample_options.SampleOptions.{SampleOptions}
use Rattle.rec_bytes.specs.declared.shape.Shape.{Shape}
use Rattle.record_file.specs.Redone.{Redoes}
use Rattle.txn_core.specs.Config.{shape_of}
use Rattle.follower.specs.Sent.{IsSent, sent_graph}
use Rattle.follower.specs.Taken.{follower_records}
use Rattle.follower.proofs.Numbered.{taken_stands}
use Rattle.graph_console.specs.Follow.{EndsFollow, Follows, all_delivered, delivered_line}
use Rattle.graph_console.specs.Following.{SendsSample}
use Rattle.graph_console.specs.Program.{Writes}
use Rattle.graph_console.specs.Sample.{sample_config}
use Rattle.graph_console.specs.declared.exit.Exit.{Exit}
use Rattle.graph_console.specs.declared.exit.Exit.TheVariants.{Done, NoMemory, OutputFault}
use Rattle.graph_console.specs.declared.follow.delivered.Delivered.{Delivered}

-- it lacks memory
pub lacks_follow : (tells : Type 0) (options : SampleOptions) (old new : List ℕ) (exit : Exit) → ((exit ≡ NoMemory) × (new ≡ old ++ fault_line WantOfMemory))
    ⊎ ((exit ≡ OutputFault) × TakesFront old new (fault_line WantOfMemory))
    → Writes old new (Follows tells options exit)
lacks_follow tells options old new exit (inl lacks) = (
  fault_line WantOfMemory,
  lacks.1,
  subst (λ (e : Exit). Follows tells options e (fault_line WantOfMemory))
      (sym lacks.0) refl,
)
lacks_follow tells options old new exit (inr fails) = let written : List ℕ = take fails.1.0 (fault_line WantOfMemory) in (
  written,
  fails.1.2,
  subst (λ (e : Exit). Follows tells options e written) (sym fails.0)
      (fault_line WantOfMemory, inr refl, drop fails.1.0 (fault_line WantOfMemory), sym (take-append-drop fails.1.0 (fault_line WantOfMemory))),
)

-- it writes its text
pub ends_follow : (tells : Type 0) (options : SampleOptions) (text old new : List ℕ) (exit : Exit) → EndsFollow tells options text
    → ((exit ≡ Done) × (new ≡ old ++ text)) ⊎ ((exit ≡ OutputFault) × TakesFront old new text)
    → Writes old new (Follows tells options exit)
ends_follow tells options text old new exit ends (inl all) = (text, all.1, subst (λ (e : Exit). Follows tells options e text) (sym all.0) ends)
ends_follow tells options text old new exit ends (inr fails) = let written : List ℕ = take fails.1.0 text in (
  written,
  fails.1.2,
  subst (λ (e : Exit). Follows tells options e written) (sym fails.0)
      (text, inl ends, drop fails.1.0 text, sym (take-append-drop fails.1.0 text)),
)

-- ---- its text

-- a disk with all shipments of a sender stands for the sender's graph
all_stands : (shape : Shape) (sent : List (List ℕ)) (content : Files) → IsSent shape sent → Redoes content (follower_records shape sent (length sent))
    → Stands content shape (sent_graph shape sent (length sent))
all_stands shape sent content is redoes = newest-stands content shape (sent_graph shape sent (length sent))
    (taken_stands shape sent (length sent) content is (omega arith) (inl redoes))

-- what comes of the deliveries, and the counts of the follower's graph, where the disk has all shipments
pub follow_text : (tells : Type 0) (options : SampleOptions) (x : ℕ) (sent : List (List ℕ)) (delivered : Delivered) (content : Files) (text : List ℕ)
    → SendsSample tells options x sent
    → (delivered ≡ all_delivered (length sent) x) × Redoes content (follower_records (shape_of (sample_config options)) sent (length sent))
    → ((shape : Shape) (graph : Graph) → Stands content shape graph → text ≡ delivered_line delivered ++ text_line (counts_text (counts_of graph)))
    → EndsFollow tells options text
follow_text tells options x sent delivered content text sends taken told =
    let shape = shape_of (sample_config options) in
    let graph : Graph = sent_graph shape sent (length sent) in
    let counts : delivered ≡ all_delivered options.count sends.generated.last.x = taken.0 ∙ ap₂ all_delivered sends.many sends.x_is in
    record {
      run = sends.run;
      last = sends.last;
      steps = sends.steps;
      generated = sends.generated;
      text =
          told shape graph (all_stands shape sent content sends.well taken.1)
          ∙ ap₂ (λ (d : Delivered) (g : Graph). delivered_line d ++ text_line (counts_text (counts_of g))) counts (sym sends.graph);
    }

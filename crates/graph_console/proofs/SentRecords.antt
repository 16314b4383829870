-- What a session has committed is what it has sent.
use Rattle.std.proofs.Common.{◌≡◌, ◌⊎◌, ⊎_elim, ◌∙◌, ℕ, zero, suc, ◌+◌, ◌≤◌, ◌<◌, ◌^◌, true, None, Some, List, [], ◌∷◌}
use Rattle.std.proofs.Common.{◌++◌, length, take, ap, inl, inr, refl, sym, subst, arith, append_assoc, length-append}
use Rattle.std.specs.List.{slice_get}
use Rattle.std.proofs.lemmas.List.{append-nil, take-append-le}
use Rattle.disk_model.specs.declared.disk.Disk.{Ghosts as DiskGhosts}
use Rattle.stream_io.specs.Lines.{InputLine}
use Rattle.stream_io.specs.declared.streams.Sink.{Ghosts as SinkGhosts}
use Rattle.plain_graph.specs.Graph.{Graph, empty_graph}
use Rattle.plain_graph.specs.Reply.{Reply}
use Rattle.plain_graph.specs.declared.command.Command.TheVariants as commands
use Rattle.rec_bytes.specs.Creation.{creation_pairs, new_records}
use Rattle.rec_bytes.specs.Pairs.{Pairs}
use Rattle.rec_bytes.specs.Shape.{is_allowed}
use Rattle.rec_bytes.specs.Space.{laid_over}
use Rattle.rec_bytes.specs.declared.key.Key.{Key}
use Rattle.rec_bytes.specs.declared.record.Rec.{Rec}
use Rattle.rec_bytes.specs.declared.shape.Shape.{Shape}
use Rattle.record_file.specs.Records.{IsUnmade}
use Rattle.store_rules.specs.Graph.{graph_of}
use Rattle.store_rules.specs.Indexes.{IsIndexed}
use Rattle.stored_graph.specs.Stands.{IsZeros}
use Rattle.stored_graph.proofs.Stands.{unmade-not_made}
use Rattle.txn_core.specs.Config.{shape_of}
use Rattle.txn_core.specs.Opening as store
use Rattle.txn_core.specs.Shipped.{AllShip}
use Rattle.txn_core.specs.declared.config.Config.{Config}
use Rattle.txn_core.proofs.Finding.{none_made}
use Rattle.follower.specs.Sent.{IsSent, sent_graph}
use Rattle.follower.specs.Shipment.{IsShipment, most_shipped, number_of, writes_of}
use Rattle.follower.specs.Shipping.{AreShipped, shipment_bytes}
use Rattle.follower.specs.Taken.{laid_all, sender_records}
use Rattle.follower.proofs.Ascending.{ascends}
use Rattle.follower.proofs.RoundTrip.{number-back, shipment-back, writes-back}
use Rattle.follower.proofs.Standing.{zeros_blank}
use Rattle.follower.proofs.Taking.{sender_records-more}
use Rattle.graph_session.specs.Answer.{Terminal, shared_in}
use Rattle.graph_session.specs.Opening.{Starts}
use Rattle.graph_session.specs.SharedConsole.{IsSharedAt}
use Rattle.graph_session.specs.SnapshotEffects.{Confirms, SharedView}
use Rattle.graph_session.specs.Snapshots.{SharedState}
use Rattle.graph_session.specs.State.{Failed, Live, SpellsLine, Standing, State, health_of}
use Rattle.graph_session.specs.Tapping.{Acknowledges, TapsLine}
use Rattle.graph_session.specs.declared.health.Health.TheVariants as healths
use Rattle.graph_session.specs.declared.turn.Turn.{Turn}
use Rattle.graph_session.proofs.LineMoves.{LeavesCommitted, Moves, acknowledges-live, line-moves}
use Rattle.graph_session.proofs.SnapshotTaking.{opens-shared}
use Rattle.graph_console.specs.Sending.{HasSent, HasSentMore, OpensSession, Sender, Sends, Ships, Steps, TappedLine, new_state}

-- ---- one shipment more

module _ (bytes : List ℕ) where
  got_more : (sent : List (List ℕ)) (i : ℕ) (found : List ℕ) → slice_get (sent ++ bytes ∷ []) i ≡ Some found → (slice_get sent i ≡ Some found)
      ⊎ ((i ≡ length sent) × (found ≡ bytes))
  got_more [] zero found is = inr (refl, cc)
  got_more [] (suc i) found is = absurd cc
  got_more (first ∷ later) zero found is = inl is
  got_more (first ∷ later) (suc i) found is =
      ⊎_elim (λ (got : slice_get later i ≡ Some found). inl got) (λ (last : (i ≡ length later) × (found ≡ bytes)). inr (ap suc last.0, last.1))
      (got_more later i found is)

  got_last : (sent : List (List ℕ)) → slice_get (sent ++ bytes ∷ []) (length sent) ≡ Some bytes
  got_last [] = refl
  got_last (first ∷ later) = got_last later

  -- the records after those before are the same
  records_before : (shape : Shape) (sent : List (List ℕ)) (j : ℕ) → j ≤ length sent → sender_records shape (sent ++ bytes ∷ []) j ≡ sender_records shape sent j
  records_before shape sent j le = ap (laid_all (new_records shape)) (take-append-le j sent (bytes ∷ []) le)

  records_after : (shape : Shape) (sent : List (List ℕ)) → sender_records shape (sent ++ bytes ∷ []) (length sent + 1) ≡ laid_over
      (sender_records shape sent (length sent)) (writes_of bytes)
  records_after shape sent =
      sender_records-more shape (sent ++ bytes ∷ []) (length sent) bytes (got_last sent)
      ∙ ap (λ (records : Key → Rec). laid_over records (writes_of bytes)) (records_before shape sent (length sent) (omega arith))

  long : (sent : List (List ℕ)) → length (sent ++ bytes ∷ []) ≡ length sent + 1
  long sent = length-append sent (bytes ∷ [])

  -- it is the next, and after it the records keep all rules
  sent_more : (shape : Shape) (sent : List (List ℕ)) → IsSent shape sent → length sent + 1 < 2 ^ 64 → IsShipment shape bytes → number_of bytes ≡ length sent + 1
      → IsIndexed (sender_records shape (sent ++ bytes ∷ []) (length sent + 1)) shape → IsSent shape (sent ++ bytes ∷ [])
  sent_more shape sent is few shipment number well = record {
    few = let all = long sent in omega (arith, all, few);
    each = λ i found got. ⊎_elim
        (λ (before : slice_get sent i ≡ Some found). is.each i found before)
        (λ (last : (i ≡ length sent) × (found ≡ bytes)). (
          subst (IsShipment shape) (sym last.1) shipment,
          ap number_of last.1 ∙ number ∙ ap (λ (n : ℕ). n + 1) (sym last.0),
        ))
        (got_more sent i found got);
    stored = λ j le. ⊎_elim
        (λ (before : j ≤ length sent). subst (λ (records : Key → Rec). IsIndexed records shape) (sym (records_before shape sent j before)) (is.stored j before))
        (λ (last : j ≡ length sent + 1). subst (λ (n : ℕ). IsIndexed (sender_records shape (sent ++ bytes ∷ []) n) shape) (sym last) well)
        (let all = long sent in up_to j (length sent) (omega (arith, all, le)));
  }
    where
      up_to : (j n : ℕ) → j ≤ n + 1 → (j ≤ n) ⊎ (j ≡ n + 1)
      up_to j n le = grind arith

-- ---- a new store

-- nothing was sent
none_sent : (shape : Shape) → IsIndexed (new_records shape) shape → IsSent shape []
none_sent shape well = record {
  few = omega arith;
  each = λ i bytes got. absurd cc;
  stored = λ j le. let none : j ≡ 0 = omega (arith, le) in subst (λ (n : ℕ). IsIndexed (sender_records shape [] n) shape) (sym none) well;
}

state_is : (state : State) (shape : Shape) (graph : Graph) → state.shape ≡ shape → state.committed ≡ graph → state.open_one ≡ None → state.standing ≡ Live
    → state ≡ record { shape = shape; committed = graph; open_one = None; standing = Live }
state_is state shape graph of_shape of_graph closed live = rw (← of_shape, ← of_graph, ← closed, ← live)

module _ {D : Type 0} (g : DiskGhosts D) (told : g.tells_reads) (config : Config) (disk : D) (new : SharedView D)
    (allowed : is_allowed (shape_of config) ≡ true) (zero : IsZeros (g.reads disk)) (opened : OpensSession g config disk new) where
  unmade : IsUnmade (g.reads disk)
  unmade = (zeros_blank (g.reads disk) zero).unmade

  -- what is committed is a new store
  new-records : (shape : Shape) (records : Key → Rec) → store.Opens (g.reads disk) config shape records → records ≡ new_records (shape_of config)
  new-records shape records (inl (none, shape_is, is)) =
      is ∙ ap (store.made_over (g.reads disk)) shape_is ∙ ap (λ (before : Key → Rec). laid_over before (creation_pairs (shape_of config)))
      (zeros_blank (g.reads disk) zero).records
  new-records shape records (inr (before, redoes, made, suits, is)) = absurd
      (none_made (g.reads disk) shape unmade (record { space = before; redoes = redoes; made = made }))

  committed-new : new.session.console.committed ≡ new_records (shape_of config)
  committed-new = new-records new.session.console.shape new.session.console.committed (opened.records told)

  -- the session begins with the empty graph
  starts-new : (state : State) → Starts (g.reads disk) config state → (state.shape ≡ shape_of config) × (state.committed ≡ empty_graph)
  starts-new state (inl (none, shape_is, graph)) = (shape_is, graph)
  starts-new state (inr (made, suits)) = absurd (unmade-not_made (g.reads disk) state.shape state.committed unmade made)

  at-new : IsSharedAt g new (new_state (shape_of config))
  at-new =
      let begins = opened.opens.begins true (λ told_so. record { shape = shape_of config; graph = empty_graph; stands = inl (unmade, refl) }) in
      let starts = starts-new begins.0 (begins.1.starts told) in
      subst (λ (state : State). IsSharedAt g new (record { writer = state; readers = record { open_ones = []; ended = [] } }))
      (state_is begins.0 (shape_of config) empty_graph starts.0 starts.1 begins.1.closed begins.1.live)
      (opens-shared g new begins.0 begins.2 opened.stored begins.1.closed opened.none)

  pub begins-sent : HasSent g (shape_of config) [] new (new_state (shape_of config))
  begins-sent =
      let holds = at-new.writer.holds told refl in
      record {
        is_at = at-new;
        shape_is = refl;
        allowed = allowed;
        well = none_sent (shape_of config) (subst (λ (records : Key → Rec). IsIndexed records (shape_of config)) committed-new holds.committed);
        committed = λ live. committed-new;
        graph = λ live. sym holds.committed_graph ∙ ap graph_of committed-new;
      }

-- ---- a line

-- what a call says is a step
pub tapped-steps : {D K : Type 0} (disk : DiskGhosts D) (sink : SinkGhosts K) (line : InputLine) (old new : Terminal D K) (turn : Turn) (tap : Pairs)
    (before : SharedState) (taps : TapsLine disk sink line old new turn tap)
    → IsSharedAt disk (shared_in old) before → Steps disk line (shared_in old) before taps.answers.reply (shared_in new) tap
tapped-steps disk sink line old new turn tap before taps at = record {
  settles = taps.answers.settles true before at;
  may = taps.answers.may at.writer.no_draft;
  taps = taps.taps at.writer.no_draft;
}

standing-live : (standing : Standing) → health_of standing ≡ healths.Live → standing ≡ Live
standing-live Live live = refl
standing-live (Failed graphs) failed = absurd cc

module _ {D : Type 0} (g : DiskGhosts D) (told : g.tells_reads) (shape : Shape) (sent : List (List ℕ)) (line : InputLine) (old new : SharedView D)
    (before : SharedState) (reply : Reply) (tap : Pairs)
    (was : HasSent g shape sent old before) (steps : Steps g line old before reply new tap) where
  abbrev after : SharedState
  after = steps.settles.shared.after

  at-after : IsSharedAt g new after
  at-after = steps.settles.shared.arrives.is_at

  moves : Moves g line old.session reply new.session
  moves = line-moves g line old reply new steps.may

  shape-old : old.session.console.shape ≡ shape
  shape-old = sym was.is_at.writer.shape ∙ was.shape_is

  live-after : after.writer.standing ≡ Live → new.session.console.health ≡ healths.Live
  live-after live = at-after.writer.health ∙ ap health_of live

  live-before : old.session.console.health ≡ healths.Live → before.writer.standing ≡ Live
  live-before live = standing-live before.writer.standing (sym was.is_at.writer.health ∙ live)

  -- it has sent them, where they have what is committed
  has-sent : (later : List (List ℕ)) → IsSent shape later → (after.writer.standing ≡ Live → new.session.console.committed ≡ sender_records shape later
      (length later)) → HasSent g shape later new after
  has-sent later well committed = record {
    is_at = at-after;
    shape_is = at-after.writer.shape ∙ moves.shape ∙ shape-old;
    allowed = was.allowed;
    well = well;
    committed = committed;
    graph = λ live. sym (at-after.writer.holds told live).committed_graph ∙ ap graph_of (committed live);
  }

  -- a line that acknowledges no transaction
  goes_on-none : ¬ Acknowledges old.session.console.is_open line reply → (SpellsLine line commands.Reopen → Confirms reply → new.session.console.committed ≡
      sender_records shape sent (length sent))
      → HasSent g shape sent new after
  goes_on-none none found = has-sent sent was.well (λ live. by live moves.leaves)
    where
      by : after.writer.standing ≡ Live → LeavesCommitted g line old.session reply new.session
          → new.session.console.committed ≡ sender_records shape sent (length sent)
      by live (inl (health, same)) = same told ∙ was.committed (live-before (sym health ∙ live-after live))
      by live (inr (inl acknowledges)) = absurd (none acknowledges)
      by live (inr (inr (inl (reopens, confirms)))) = found reopens confirms
      by live (inr (inr (inr failed))) = let clash : healths.Failed ≡ healths.Live = sym failed ∙ live-after live in absurd cc

  -- and one that does
  goes_on-more : Acknowledges old.session.console.is_open line reply → length tap ≤ most_shipped → length sent + 1 < 2 ^ 64
      → HasSent g shape (sent ++ shipment_bytes (length sent + 1) tap ∷ []) new after
  goes_on-more acknowledges few small =
      let bytes = shipment_bytes (length sent + 1) tap in
      let was_live = acknowledges-live g line old reply new steps.may acknowledges in
      let tapped = steps.taps.taken acknowledges in
      let are : AreShipped shape tap = record {
        few = few;
        ascend = ascends shape tap tapped.rising (subst (λ (s : Shape). AllShip s tap) (moves.shape ∙ shape-old) tapped.shipped);
        whole = tapped.whole;
      } in
      let records : new.session.console.committed ≡ sender_records shape (sent ++ bytes ∷ []) (length sent + 1) =
      tapped.committed told
      ∙ ap (λ (space : Key → Rec). laid_over space tap) (was.committed (live-before was_live))
      ∙ ap (laid_over (sender_records shape sent (length sent))) (sym (writes-back shape (length sent + 1) tap was.allowed small are))
      ∙ sym (records_after bytes shape sent) in
      let live : after.writer.standing ≡ Live = standing-live after.writer.standing (sym at-after.writer.health ∙ moves.live acknowledges.1 was_live) in
      let well : IsIndexed new.session.console.committed shape = subst (IsIndexed new.session.console.committed)
      (at-after.writer.shape ∙ moves.shape ∙ shape-old) (at-after.writer.holds told live).committed in
      has-sent (sent ++ bytes ∷ [])
      (sent_more bytes shape sent was.well small (shipment-back shape (length sent + 1) tap was.allowed small are) (number-back shape (length sent + 1)
      tap was.allowed small are)
      (subst (λ (space : Key → Rec). IsIndexed space shape) records well))
      (λ still. records ∙ ap (sender_records shape (sent ++ bytes ∷ [])) (sym (long bytes sent)))

  pub goes_on-sent : (later : List (List ℕ)) → Sends line old reply new tap shape sent later → HasSent g shape later new after
  goes_on-sent later (inl (acknowledges, few, small, is)) = subst (λ (all : List (List ℕ)). HasSent g shape all new after) (sym is)
      (goes_on-more acknowledges few small)
  goes_on-sent later (inr (none, is, found)) = subst (λ (all : List (List ℕ)). HasSent g shape all new after) (sym is) (goes_on-none none found)

  -- what was sent stays
  sends-more : (later : List (List ℕ)) → Sends line old reply new tap shape sent later → (more : List (List ℕ)) × (later ≡ sent ++ more)
  sends-more later (inl (acknowledges, few, small, is)) = (shipment_bytes (length sent + 1) tap ∷ [], is)
  sends-more later (inr (none, is, found)) = ([], is ∙ sym (append-nil sent))

-- ---- a run

-- the graphs of what was sent stay
graphs-stay : (shape : Shape) (sent more all : List (List ℕ)) → all ≡ sent ++ more → (j : ℕ) → j ≤ length sent
    → sent_graph shape all j ≡ sent_graph shape sent j
graphs-stay shape sent more all is j le =
    ap (λ (l : List (List ℕ)). graph_of (laid_all (new_records shape) l)) (ap (λ (l : List (List ℕ)). take j l) is ∙ take-append-le j sent more le)

pub ships-sent : {D : Type 0} (g : DiskGhosts D) → g.tells_reads → (shape : Shape) (lines : List (TappedLine D)) (first last : Sender D)
    → HasSent g shape first.sent first.view first.state → Ships g shape first lines last
    → HasSentMore g shape first last
ships-sent {D = D} g told shape [] first last was is =
    let same : last.sent ≡ first.sent ++ [] = ap (λ (s : Sender D). s.sent) is ∙ sym (append-nil first.sent) in
    record {
      now = subst (λ (s : Sender D). HasSent g shape s.sent s.view s.state) (sym is) was;
      more = [];
      sent_is = same;
      graphs = graphs-stay shape first.sent [] last.sent same;
    }
ships-sent g told shape (x ∷ later) first last was (steps, state_is, sent, sends, ships) =
    let next = goes_on-sent g told shape first.sent x.line first.view x.view first.state x.reply x.tap was steps sent sends in
    let here = subst (λ (state : SharedState). HasSent g shape sent x.view state) (sym state_is) next in
    let end = ships-sent g told shape later (record { view = x.view; state = x.state; sent = sent }) last here ships in
    let one = sends-more g told shape first.sent x.line first.view x.view first.state x.reply x.tap was steps sent sends in
    let all : last.sent ≡ first.sent ++ (one.0 ++ end.more) = end.sent_is ∙ ap (λ (l : List (List ℕ)). l ++ end.more) one.1
    ∙ append_assoc first.sent one.0 end.more in
    record {
      now = end.now;
      more = one.0 ++ end.more;
      sent_is = all;
      graphs = graphs-stay shape first.sent (one.0 ++ end.more) last.sent all;
    }

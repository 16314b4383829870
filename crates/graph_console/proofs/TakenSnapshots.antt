-- A snapshot that is open at the end of a run was taken in it, and sees the graph that was committed then.
use Rattle.std.proofs.Common.{◌≡◌, ◌≢◌, ◌⊎◌, ⊎_elim, ◌∙◌, inl, inr, ℕ, zero, suc, Bool, true, false, cond, not, ◌||◌}
use Rattle.std.proofs.Common.{nat_eq, List, [], ◌∷◌, ◌++◌, filter, map, refl, sym, ap, subst}
use Rattle.std.specs.List.{AllByRecursion, list_any}
use Rattle.plain_graph.specs.Graph.{Graph}
use Rattle.plain_graph.specs.Reply as replies
use Rattle.plain_graph.specs.Reply.{Reply}
use Rattle.plain_graph.specs.declared.refusal.Refusal.TheVariants as refusals
use Rattle.graph_session.specs.Exchange.{Exchange}
use Rattle.graph_session.specs.ReaderStep.{HandlesSnapshot, ReaderStep}
use Rattle.graph_session.specs.SharedExchange.{SharedStep, WriterStep, step_of}
use Rattle.graph_session.specs.Snapshots.{IsOpenFor, Outlive, Readers, Sees, SeesAmong, SharedState, Snapshot, heavier, is_of}
use Rattle.graph_session.specs.State.{session_in}
use Rattle.graph_session.proofs.SnapshotLists.{or_right, other_number, own_number}
use Rattle.graph_console.specs.Run.{Run, no_readers}
use Rattle.graph_console.specs.TakenSnapshots.{HasTaken, MovesSnapshot, TakesSnapshot}

-- ---- snapshots in a list

sees_heavier : (weight : ℕ) (snapshots : List Snapshot) (reader : ℕ) (graph : Graph) → SeesAmong (map (heavier weight) snapshots) reader graph
    → SeesAmong snapshots reader graph
sees_heavier weight [] reader graph never = never
sees_heavier weight (snapshot ∷ younger) reader graph (inl first) = inl first
sees_heavier weight (snapshot ∷ younger) reader graph (inr later) = inr (sees_heavier weight younger reader graph later)

-- one that outlives a transaction was there before it
sees_outliving : (weight : ℕ) (snapshots : List Snapshot) (ended : List ℕ) (new : Readers) → Outlive weight snapshots ended new → (reader : ℕ) (graph : Graph)
    → Sees new reader graph → SeesAmong snapshots reader graph
sees_outliving weight [] ended new is reader graph sees = subst (λ (readers : Readers). Sees readers reader graph) is sees
sees_outliving weight (oldest ∷ younger) ended new (inl all) reader graph sees =
    sees_heavier weight (oldest ∷ younger) reader graph (subst (λ (readers : Readers). Sees readers reader graph) all sees)
sees_outliving weight (oldest ∷ younger) ended new (inr ends) reader graph sees =
    inr (sees_outliving weight younger (oldest.reader ∷ ended) new ends.1 reader graph sees)

-- one of a list with one more at its end
sees_end : (snapshots : List Snapshot) (last : Snapshot) (reader : ℕ) (graph : Graph) → SeesAmong (snapshots ++ last ∷ []) reader graph
    → SeesAmong snapshots reader graph ⊎ ((last.reader ≡ reader) × (last.graph ≡ graph))
sees_end [] last reader graph (inl is) = inr is
sees_end [] last reader graph (inr never) = absurd never
sees_end (snapshot ∷ younger) last reader graph (inl is) = inl (inl is)
sees_end (snapshot ∷ younger) last reader graph (inr later) = ⊎_elim (λ sees. inl (inr sees)) (λ is. inr is) (sees_end younger last reader graph later)

abbrev others : ℕ → List Snapshot → List Snapshot
others gone snapshots = filter (λ (snapshot : Snapshot). not (is_of gone snapshot)) snapshots

-- one that is left when a reader's are gone is another reader's
sees_left : (gone : ℕ) (snapshots : List Snapshot) (reader : ℕ) (graph : Graph) → SeesAmong (others gone snapshots) reader graph
    → SeesAmong snapshots reader graph × (reader ≢ gone)
sees_left gone [] reader graph never = absurd never
sees_left gone (snapshot ∷ younger) reader graph sees = by (nat_eq snapshot.reader gone) refl (sees_left gone younger reader graph) sees
  where
    by : (t : Bool) → nat_eq snapshot.reader gone ≡ t → (SeesAmong (others gone younger) reader graph → SeesAmong younger reader graph × (reader ≢ gone))
        → SeesAmong (cond (not t) (snapshot ∷ others gone younger) (others gone younger)) reader graph → SeesAmong (snapshot ∷ younger) reader graph
        × (reader ≢ gone)
    by true e later s = (inr (later s).0, (later s).1)
    by false e later (inl is) = (inl is, λ same. other_number snapshot.reader gone e (is.0 ∙ same))
    by false e later (inr s) = (inr (later s).0, (later s).1)

-- who sees a graph has a snapshot
open_of : (snapshots : List Snapshot) (reader : ℕ) (graph : Graph) → SeesAmong snapshots reader graph → list_any (is_of reader) snapshots ≡ true
open_of [] reader graph never = absurd never
open_of (snapshot ∷ younger) reader graph (inl is) = ap (λ (b : Bool). b || list_any (is_of reader) younger)
    (ap (λ (n : ℕ). nat_eq n reader) is.0 ∙ own_number reader)
open_of (snapshot ∷ younger) reader graph (inr later) = or_right (is_of reader snapshot) (list_any (is_of reader) younger) (open_of younger reader graph later)

-- ---- in a step

module _ (old : SharedState) (x : Exchange) (new : SharedState) (reader : ℕ) (graph : Graph) where
  -- the snapshot was open before, and the line neither took nor released it; or the line took it
  abbrev HasSince : Type 0
  HasSince = (Sees old.readers reader graph × ¬ MovesSnapshot reader x) ⊎ (TakesSnapshot reader x × (graph ≡ old.writer.committed))

  abbrev sees_as : (state : SharedState) → new ≡ state → Sees new.readers reader graph → Sees state.readers reader graph
  sees_as state is sees = subst (λ (s : SharedState). Sees s.readers reader graph) is sees

  writer_since : WriterStep old x new → Sees new.readers reader graph → HasSince
  writer_since (inl refused) sees = inl (
    sees_as old refused.2 sees,
    λ moves. let clash : replies.Refused refusals.Writer ≡ replies.Done = sym refused.1
        ∙ moves.2 in cc,
  )
  writer_since (inr writes) sees = inl (
    ⊎_elim (λ ends. sees_outliving ends.0 old.readers.open_ones old.readers.ended new.readers ends.3 reader graph sees)
        (λ same. subst (λ (readers : Readers). Sees readers reader graph) same.1 sees) writes.1.1,
    λ moves. writes.0 moves.1,
  )

  module _ (session : ℕ) (own : session_in x.line ≡ session) where
    handled_since : x.reply ≡ replies.Done → HandlesSnapshot old session x.line new → Sees new.readers reader graph → HasSince
    handled_since done (none, inl (spells, is)) sees =
        let last : Snapshot = record { reader = session; graph = old.writer.committed; sum = 0 } in
        elim (sees_end old.readers.open_ones last reader graph (sees_as _ is sees)) [
          | inl had ↦ inl (
            had,
            λ moves.
                none.1.1.1.1.0 refusals.SnapshotOpen (
                  spells,
                  subst (IsOpenFor old.readers) (sym moves.0 ∙ own) (open_of old.readers.open_ones reader graph
                      had),
                  refl,
                ),
          )
          | inr took ↦ inr ((own ∙ took.0, spells, done), sym took.1)
        ]
    handled_since done (none, inr (spells, is)) sees =
        let left = sees_left session old.readers.open_ones reader graph (sees_as _ is sees) in inl (left.0, λ moves. left.1 (sym moves.0 ∙ own))

    reader_since : ReaderStep session old x new → Sees new.readers reader graph → HasSince
    reader_since step sees = by x.reply refl step
      where
        by : (reply : Reply) → x.reply ≡ reply → ReaderStep session old (record x { reply = reply }) new → HasSince
        by replies.Silent is s = inl (sees_as old s.1 sees, λ moves. let clash : replies.Silent ≡ replies.Done = sym is ∙ moves.2 in cc)
        by replies.Done is s = handled_since is s sees
        by (replies.NodeMade id) is never = absurd never
        by (replies.EdgeMade id) is never = absurd never
        by (replies.Told lines last) is s = inl (sees_as old s.1 sees, λ moves. let clash : replies.Told lines last ≡ replies.Done = sym is ∙ moves.2 in cc)
        by (replies.Faulted lines fault) is s = inl (
          sees_as old s.1 sees,
          λ moves. let clash : replies.Faulted lines fault ≡ replies.Done = sym is ∙ moves.2 in
              cc,
        )
        by (replies.Refused why) is s = inl (sees_as old s.1 sees, λ moves. let clash : replies.Refused why ≡ replies.Done = sym is ∙ moves.2 in cc)

  shared_since : SharedStep old x new → Sees new.readers reader graph → HasSince
  shared_since step sees = by (session_in x.line) refl step
    where
      by : (session : ℕ) → session_in x.line ≡ session → step_of session old x new → HasSince
      by zero own s = writer_since s sees
      by (suc other) own s = reader_since (suc other) own s sees

-- ---- in a run

-- it was open at the start and has been since, or was taken in the run
taken_in : (tells : Type 0) → tells → (first : SharedState) (run : List Exchange) (last : SharedState) → Run tells first run last → (reader : ℕ) (graph : Graph)
    → Sees last.readers reader graph
    → (Sees first.readers reader graph × AllByRecursion (λ (x : Exchange). ¬ MovesSnapshot reader x) run) ⊎ HasTaken tells first run reader graph
taken_in tells told first [] last same reader graph sees = inl (subst (λ (s : SharedState). Sees s.readers reader graph) same sees, tt)
taken_in tells told first (x ∷ later) last steps reader graph sees = elim (taken_in tells told steps.0 later last steps.2 reader graph sees) [
  | inl kept ↦ elim (shared_since first x steps.0 reader graph (steps.1.step told) kept.0) [
    | inl had ↦ inl (had.0, (had.1, kept.1))
    | inr took ↦ inr (record {
      before = [];
      taking = x;
      later = later;
      run_is = refl;
      state = first;
      leads = refl;
      takes = took.0;
      graph_is = took.1;
      since =
          kept.1;
    })
  ]
  | inr has ↦ inr (record {
    before = x ∷ has.before;
    taking = has.taking;
    later = has.later;
    run_is = ap (λ (xs : List Exchange). x ∷ xs) has.run_is;
    state = has.state;
    leads = (steps.0, steps.1, has.leads);
    takes = has.takes;
    graph_is = has.graph_is;
    since = has.since;
  })
]

pub taken_since : (tells : Type 0) → tells → (first : SharedState) (run : List Exchange) (last : SharedState) → first.readers ≡ no_readers
    → Run tells first run last
    → (reader : ℕ) (graph : Graph) → Sees last.readers reader graph → HasTaken tells first run reader graph
taken_since tells told first run last none steps reader graph sees =
    ⊎_elim (λ kept. absurd (subst (λ (readers : Readers). Sees readers reader graph) none kept.0)) (λ has. has)
    (taken_in tells told first run last steps reader graph sees)

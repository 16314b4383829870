use Rattle.std.proofs.Common.{rules, arith, ◌≡◌, ◌<◌, ◌+◌, ◌∙◌, ◌++◌, ◌∷◌, [], ℕ, zero, suc, List, true, false, length}
use Rattle.std.proofs.Common.{map, take, get_or, ap, sym, subst, ⊎_elim}
use Rattle.std.specs.List.{All}
use Rattle.std.proofs.lemmas.List.{map_more, take_all, take_more}
use Rattle.std.proofs.lemmas.List.Elements.{All-append}
use Rattle.rec_bytes.specs.Format as format
use Rattle.prop_store.proofs.Causes.{cause_passed, later_on, memory_cause}
use Rattle.store_rules.specs.Chains.{In}
use Rattle.store_rules.specs.Indexes.{entry_node, wanted_in}
use Rattle.store_rules.specs.Views.{Records, high}
use Rattle.store_rules.proofs.OnceLaws.{in_parts}
use Rattle.index_check.specs.Nodes.{IsNodeOf, said_by}
use Rattle.index_check.specs.Values.{AreReadable}
use Rattle.index_check.proofs.PlaceLaws.{in_place}
use Rattle.index_check.proofs.SoundExits.{sound_exit}
use Rattle.rec_bytes.proofs.Causes.{never_ok, ok_cause}
use Rattle.prop_store.proofs.Exits.{same_has}
use Rattle.record_lists.proofs.OnlyReads.{is_read-none, is_read-on}
use Rattle.index_check.proofs.nodes.nodes_of.Goals as goal

-- what holds of the first ones, and of the next
one_more_in : (P : ℕ → Type 0) (xs : List ℕ) (i : ℕ) → i < length xs → ((x : ℕ) → In x (take i xs) → P x) → P (get_or xs i 0) → (x : ℕ) → In x (take (i + 1) xs)
    → P x
one_more_in P xs i lt before here x m = ⊎_elim
    (λ (k : In x (take i xs)). before x k)
    (λ (k : In x (get_or xs i 0 ∷ [])). ⊎_elim (λ (e : x ≡ get_or xs i 0). subst P (sym e) here) (λ none. elim none [ ]) k)
    (in_parts x (take i xs) (get_or xs i 0 ∷ []) (subst (In x) (take_more xs i 0 lt) m))

one_low : (n mark : ℕ) → n < mark → All (λ x. x < mark) (n ∷ [])
one_low n mark lt zero d low = lt
one_low n mark lt (suc k) d low = absurd (omega arith)

pub loop-id-init : goal.loop-id-init
loop-id-init g c =
    record {
      nodes = λ tells. search rules;
      wanted = λ tells x i. elim i [ ];
      low = λ k d lt. let none : length c.new-nodes.result.items ≡ 0 = ap length c.new-nodes.ensures.items in absurd (omega arith);
      read = is_read-none g.R.Reads g.met.R.Reads.stays_onward c.args.space.now;
    }

pub loop-id-preserved : goal.loop-id-preserved
loop-id-preserved g c =
    let records = (g.R.Reads.state c.args.space.now).records in
    let inv = c.loop-id.invariant in
    let entries = c.args.entries.now in
    let i = c.loop-id.id-index in
    let x = get_or entries i 0 in
    let d = c.args.definition.now in
    let node = c.in-Some.node in
    let items : c.push.new.self.items ≡ c.loop-id.nodes.items ++ node ∷ [] = search rules in
    let wanted : g.R.Reads.tells → IsNodeOf records d x node
    = λ tells. subst (λ (r : Records). IsNodeOf r d x node) inv.read.records (let w : IsNodeOf (g.R.Reads.state c.loop-id.space).records d x node = search
    (rules, c.in_ok-node.ensures.wanted tells) in w) in
    let below : node < high (g.R.Reads.state c.loop-id.space).records format.nodes_file = search (rules, c.in_ok-node.ensures.low) in
    record {
      nodes = λ tells.
          items
          ∙ ap (λ xs. xs ++ node ∷ []) (inv.nodes tells)
          ∙ ap (λ y. map (entry_node records) (take i entries) ++ y ∷ []) (wanted tells).is
          ∙ sym (map_more (entry_node records) entries i 0 c.loop-id-test.true);
      wanted = λ tells. one_more_in (λ y. wanted_in records (said_by records d y) ≡ true) entries i c.loop-id-test.true (inv.wanted tells)
          (wanted tells).wanted;
      low = subst (All (λ n. n < high records format.nodes_file)) (sym items)
          (All-append (λ n. n < high records format.nodes_file) c.loop-id.nodes.items (node ∷ []) inv.low (one_low node (high records format.nodes_file)
          (subst (λ (r : Records). node < high r format.nodes_file) inv.read.records below)));
      read = is_read-on g.R.Reads g.met.R.Reads.further_onward c.args.space.now c.loop-id.space c.node_of.new.space inv.read c.in_ok-node.ensures.read;
    }

pub returns-in-None-clause-told : goal.returns-in-None-clause-told
returns-in-None-clause-told g c = λ tells.
    let records = (g.R.Reads.state c.args.space.now).records in
    let entries = c.args.entries.now in
    let i = c.loop-id.id-index in
    let x = get_or entries i 0 in
    let d = c.args.definition.now in
    let no : wanted_in (g.R.Reads.state c.loop-id.space).records (said_by (g.R.Reads.state c.loop-id.space).records d x) ≡ false =
    search (rules, c.in_ok-node.ensures.unwanted tells) in
    (in_place entries i c.loop-id-test.true, subst (λ (r : Records). wanted_in r (said_by r d x) ≡ false) c.loop-id.invariant.read.records no)

pub returns-clause-told : goal.returns-clause-told
returns-clause-told g c = λ tells.
    let records = (g.R.Reads.state c.args.space.now).records in
    let entries = c.args.entries.now in
    let i = c.loop-id.id-index in
    let all : take i entries ≡ entries = take_all i entries (omega arith) in (
      c.loop-id.invariant.nodes tells ∙ ap (map (entry_node records)) all,
      (λ (x : ℕ) (m : In x entries). c.loop-id.invariant.wanted tells x
          (subst (In x) (sym all) m)),
    )

pub returns-in_err-node-clause-read : goal.returns-in_err-node-clause-read
returns-in_err-node-clause-read g c =
    is_read-on g.R.Reads g.met.R.Reads.further_onward c.args.space.now c.loop-id.space c.node_of.new.space c.loop-id.invariant.read c.in_err-node.ensures.read

pub returns-in_err-node-clause-cause : goal.returns-in_err-node-clause-cause
returns-in_err-node-clause-cause g c =
    cause_passed _ _ _ c.from_residual.result c.in_err-node.field-0.0 c.loop-id.invariant.read.later c.in_err-node.ensures.cause c.from_residual.ensures.1

pub returns-in_err-node-clause-not_damaged : goal.returns-in_err-node-clause-not_damaged
returns-in_err-node-clause-not_damaged g c = λ tells readable.
    sound_exit c.from_residual.result c.in_err-node.field-0.0 c.from_residual.ensures.1
    (c.in_err-node.ensures.not_damaged tells (subst AreReadable (sym c.loop-id.invariant.read.records) readable))

pub returns-in_err-push-in-Some-clause-read : goal.returns-in_err-push-in-Some-clause-read
returns-in_err-push-in-Some-clause-read g c =
    is_read-on g.R.Reads g.met.R.Reads.further_onward c.args.space.now c.loop-id.space c.node_of.new.space c.loop-id.invariant.read c.in_ok-node.ensures.read

pub returns-in_err-push-in-Some-clause-cause : goal.returns-in_err-push-in-Some-clause-cause
returns-in_err-push-in-Some-clause-cause g c =
    memory_cause _ _ c.from_residual-in_err-push-in-Some.result (later_on c.loop-id.invariant.read.later c.in_ok-node.ensures.cause.later)
    c.from_residual-in_err-push-in-Some.ensures.1

pub returns-in-None-clause-read : goal.returns-in-None-clause-read
returns-in-None-clause-read g c =
    is_read-on g.R.Reads g.met.R.Reads.further_onward c.args.space.now c.loop-id.space c.node_of.new.space c.loop-id.invariant.read c.in_ok-node.ensures.read

pub returns-in_err-node-clause-told : goal.returns-in_err-node-clause-told
returns-in_err-node-clause-told g c _ = never_ok c.from_residual.result _ _ c.from_residual.ensures.1

pub returns-in_err-node-clause-low : goal.returns-in_err-node-clause-low
returns-in_err-node-clause-low g c = never_ok c.from_residual.result _ _ c.from_residual.ensures.1

pub returns-in_err-push-in-Some-clause-told : goal.returns-in_err-push-in-Some-clause-told
returns-in_err-push-in-Some-clause-told g c _ = never_ok c.from_residual-in_err-push-in-Some.result _ _ c.from_residual-in_err-push-in-Some.ensures.1

pub returns-in_err-push-in-Some-clause-low : goal.returns-in_err-push-in-Some-clause-low
returns-in_err-push-in-Some-clause-low g c = never_ok c.from_residual-in_err-push-in-Some.result _ _ c.from_residual-in_err-push-in-Some.ensures.1

pub returns-in_err-push-in-Some-clause-not_damaged : goal.returns-in_err-push-in-Some-clause-not_damaged
returns-in_err-push-in-Some-clause-not_damaged g c _ _ =
    same_has _ c.from_residual-in_err-push-in-Some.result _ c.from_residual-in_err-push-in-Some.ensures.1 tt

pub returns-clause-cause : goal.returns-clause-cause
returns-clause-cause g c = ok_cause _ _ _ _ c.loop-id.invariant.read.later

pub returns-in-None-clause-cause : goal.returns-in-None-clause-cause
returns-in-None-clause-cause g c = ok_cause _ _ _ _ (later_on c.loop-id.invariant.read.later c.in_ok-node.ensures.cause.later)

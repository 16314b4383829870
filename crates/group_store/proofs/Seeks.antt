-- A search among a node's groups, step by step.
use Rattle.std.proofs.Common.{◌≡◌, ◌≢◌, ⊎_elim, inl, inr, ℕ, ◌+◌, ◌≤◌, true, false, nat_eq, List, [], ◌∷◌, ◌++◌, length}
use Rattle.std.proofs.Common.{Option, None, Some, refl, sym, ap, ◌∙◌, subst, arith}
use Rattle.std.proofs.lemmas.Bool.Decides.{nat_tests}
use Rattle.std.specs.Prelude.{◌↔◌}
use Rattle.rec_bytes.specs.declared.record.Rec.{Rec}
use Rattle.rec_bytes.specs.Format as format
use Rattle.rec_bytes.specs.Record.{field}
use Rattle.rec_bytes.specs.Space.{State}
use Rattle.store_rules.specs.Breaking.{IsOnChain}
use Rattle.store_rules.specs.Chains.{In, IsWalk}
use Rattle.store_rules.specs.Views.{Records, first_link, high, rec_at}
use Rattle.store_rules.proofs.ChainLaws.{walk_of_chain}
use Rattle.store_rules.proofs.NumberLaws.{eq_false}
use Rattle.store_rules.proofs.ViewLaws.{kind_below, kind_low}
use Rattle.chain_edit.proofs.Walks.{walk_is}
use Rattle.node_store.specs.declared.node_row.NodeRow.{NodeRow}
use Rattle.node_store.specs.Loading as nodes
use Rattle.node_store.proofs.Rows.{kind-row_at-Some}
use Rattle.group_store.specs.declared.group_row.GroupRow.{GroupRow}
use Rattle.group_store.specs.Finding.{IsFound, IsGroupFound, IsSought}
use Rattle.group_store.specs.GroupChain.{IsDense, IsGroupChain, IsGroupList, IsGroupOf, LacksGroup, LacksType, next_group, type_of, up_to_type}
use Rattle.group_store.specs.GroupRecord.{row_of}
use Rattle.group_store.proofs.GroupWalks.{HasPassed, IsLeft, in_push}

-- ---- what has not the type

pub lacks_none : (records : Records) (label : ℕ) → LacksType records label []
lacks_none records label = λ g i. elim i [ ]

pub lacks_more : (records : Records) (label at : ℕ) (ms : List ℕ) → type_of records at ≢ label → LacksType records label ms
    → LacksType records label (ms ++ at ∷ [])
lacks_more records label at ms ne lacks = λ g i. ⊎_elim (λ k. lacks g k) (λ e. subst (λ z. type_of records z ≢ label) (sym e) ne) (in_push ms at g i)

-- ---- how many are read

up_to_past : (records : Records) (label : ℕ) (ms ys : List ℕ) → LacksType records label ms
    → length (up_to_type records label (ms ++ ys)) ≡ length ms + length (up_to_type records label ys)
up_to_past records label [] ys lacks = omega arith
up_to_past records label (m ∷ ms) ys lacks = rw (eq_false (type_of records m) label (lacks m (inl refl)))
    (let rest = up_to_past records label ms ys (λ g i. lacks g (inr i)) in omega arith)

up_to_some : (records : Records) (label at : ℕ) (ys : List ℕ) → at ≢ format.nil → IsWalk (next_group records) at ys → 1 ≤ length (up_to_type records label ys)
up_to_some records label at [] there walk = absurd (there walk)
up_to_some records label at (y ∷ ys) there walk = omega arith

-- what was passed is read, and one more where the list goes on
pub passed_few : (records : Records) (node first at label left : ℕ) (ms xs : List ℕ) → HasPassed records node first at ms → LacksType records label ms
    → IsGroupList records node first xs → IsLeft records xs left at → length ms ≤ length (up_to_type records label xs)
passed_few records node first at label left ms xs met lacks list rest =
    let is : xs ≡ ms ++ rest.0 = walk_is (next_group records) first xs (ms ++ rest.0) list.walk (met.walk rest.0 rest.1) in
    let count = up_to_past records label ms rest.0 lacks in
    subst (λ zs. length ms ≤ length (up_to_type records label zs)) (sym is) (omega arith)

pub passed_fewer : (records : Records) (node first at label left : ℕ) (ms xs : List ℕ) → at ≢ format.nil → HasPassed records node first at ms
    → LacksType records label ms
    → IsGroupList records node first xs → IsLeft records xs left at → length ms + 1 ≤ length (up_to_type records label xs)
passed_fewer records node first at label left ms xs there met lacks list rest =
    let is : xs ≡ ms ++ rest.0 = walk_is (next_group records) first xs (ms ++ rest.0) list.walk (met.walk rest.0 rest.1) in
    let count = up_to_past records label ms rest.0 lacks in
    let some = up_to_some records label at rest.0 there rest.1 in
    subst (λ zs. length ms + 1 ≤ length (up_to_type records label zs)) (sym is) (omega arith)

-- ---- what is found

pub type_then : (s now : State) (n at label : ℕ) (rec : Rec) (number : ℕ) → rec ≡ rec_at s.records format.groups_file at
    → number ≡ field 4 rec format.group_type → number ≡ type_of s.records at
type_then s now n at label rec number got is = is ∙ ap (λ r. field 4 r format.group_type) got

pub group_found : (records : Records) (node first label at : ℕ) (rec : Rec) (row : GroupRow) → rec ≡ rec_at records format.groups_file at → row ≡ row_of rec at
    → IsGroupOf records node at → type_of records at ≡ label → (first ≡ first_link records node → IsDense records node → IsOnChain records node at)
    → IsGroupFound records node first label row
group_found records node first label at rec row got is member typed on =
    let whole : row ≡ row_of (rec_at records format.groups_file at) at = is ∙ ap (λ r. row_of r at) got in
    subst (IsGroupFound records node first label) (sym whole) (record { is = refl; member = member; typed = typed; on = on })

-- ---- the node

-- a row that is found tells whether the node is dense, and its first link
pub dense_is : (records : Records) (node : ℕ) (found : NodeRow) → Some found ≡ nodes.row_at records node → found.dense ≡ true → IsDense records node
dense_is records node found is dense =
    let row = kind-row_at-Some records node found (sym is) in
    let kind : nat_eq (field 1 (rec_at records format.nodes_file node) format.kind) format.dense ≡ true = ap (λ (r : NodeRow). r.dense) (sym row.1) ∙ dense in
    let lt = kind_below (high records format.nodes_file) (rec_at records format.nodes_file node) node row.0 in
    kind_low (high records format.nodes_file) (rec_at records format.nodes_file node) node lt
    ∙ test_is (field 1 (rec_at records format.nodes_file node) format.kind) kind
  where
    test_is : (k : ℕ) → nat_eq k format.dense ≡ true → k ≡ format.dense
    test_is k h = grind (arith, nat_tests)

pub not_dense : (records : Records) (node : ℕ) (found : NodeRow) → Some found ≡ nodes.row_at records node → found.dense ≡ false → IsDense records node → ⊥
not_dense records node found is sparse dense =
    let row = kind-row_at-Some records node found (sym is) in
    let kind : nat_eq (field 1 (rec_at records format.nodes_file node) format.kind) format.dense ≡ false = ap (λ (r : NodeRow). r.dense) (sym row.1) ∙ sparse in
    let lt = kind_below (high records format.nodes_file) (rec_at records format.nodes_file node) node row.0 in
    test_not (field 1 (rec_at records format.nodes_file node) format.kind) kind
    (sym (kind_low (high records format.nodes_file) (rec_at records format.nodes_file node) node lt) ∙ dense)
  where
    test_not : (k : ℕ) → nat_eq k format.dense ≡ false → k ≡ format.dense → ⊥
    test_not k h e = grind (arith, nat_tests)

pub first_is : (records : Records) (node : ℕ) (found : NodeRow) → Some found ≡ nodes.row_at records node → found.first ≡ first_link records node
first_is records node found is = ap (λ (r : NodeRow). r.first) (kind-row_at-Some records node found (sym is)).1

-- ---- none, exactly where there is none

pub none_lacks : (records : Records) (node label : ℕ) (xs : List ℕ) → IsGroupChain records node xs → IsSought records node (first_link records node) label None
    → LacksGroup records node label
none_lacks records node label xs chain sought = λ g is.
    let same : xs ≡ sought.0 = walk_is (next_group records) (first_link records node) xs sought.0
    (walk_of_chain _ _ format.nil (first_link records node) xs chain.chain) sought.1.walk in
    sought.2 g (subst (In g) same (chain.all g is))

pub exactly_none : (records : Records) (node label : ℕ) (xs : List ℕ) (found : Option GroupRow) → IsDense records node → IsGroupChain records node xs
    → IsFound records node label found → (found ≡ None) ↔ LacksGroup records node label
exactly_none records node label xs None dense chain is = ((λ _. none_lacks records node label xs chain (is dense)), (λ _. refl))
exactly_none records node label xs (Some row) dense chain is =
    ((λ e. absurd cc), (λ lacks. absurd (lacks row.id is.1.member (sym (ap (λ (r : GroupRow). r.label) is.1.is) ∙ is.1.typed))))

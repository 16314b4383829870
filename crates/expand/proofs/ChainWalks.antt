-- Walks of several chains, one after the other.
use Rattle.std.proofs.Common.{◌≡◌, ◌<◌, ◌≤◌, ◌-◌, ◌+◌, ℕ, zero, suc, List, [], ◌∷◌, ◌++◌, length, map, refl, sym, ap}
use Rattle.std.proofs.Common.{◌∙◌, subst, append_assoc, append-nil, ⊎_elim, arith}
use Rattle.std.specs.Prelude.{Vec}
use Rattle.std.specs.declared.alloc.Global.{Global}
use Rattle.std.proofs.lemmas.Bool.{cases_lt}
use Rattle.std.proofs.lemmas.List.{length-append, length-map, map-append}
use Rattle.rec_bytes.specs.declared.shape.Shape.{Shape}
use Rattle.rec_bytes.specs.Format as format
use Rattle.rec_bytes.specs.RecordFiles.{room_of}
use Rattle.rec_bytes.specs.Space.{State, after_gets}
use Rattle.rec_bytes.proofs.Spaces.{after_gets-zero}
use Rattle.store_rules.specs.Chains.{In, IsWalk}
use Rattle.store_rules.specs.Views.{Records}
use Rattle.store_rules.proofs.ChainLaws.{walk_of_chain}
use Rattle.store_rules.proofs.OnceLaws.{in_left, in_right}
use Rattle.rel_store.specs.declared.edge_row.EdgeRow.{EdgeRow}
use Rattle.rel_store.specs.Loading.{rel_mark, rel_room}
use Rattle.chain_edit.specs.Chains.{IsChainFrom, next_of, prev_of}
use Rattle.chain_edit.specs.Walking.{HasWalked, IsSoundWalk, ReadsAtMost, edge_at}
use Rattle.chain_edit.proofs.Walks.{mark_then, walk_is}
use Rattle.group_store.proofs.GroupWalks.{gets_add, records_then}
use Rattle.expand.specs.Walking.{AreSoundWalks, AreWalks, HaveWalked}

-- what a walk gives
abbrev pub Rows : Type 0
Rows = Vec EdgeRow Global

-- a chain is a walk
pub chain_walk : (records : Records) (node first : ℕ) (xs : List ℕ) → IsChainFrom records node first xs → IsWalk (next_of records node) first xs
chain_walk records node first xs chain = walk_of_chain (next_of records node) (prev_of records node) format.nil first xs chain

-- two walks from the same first links meet the same
pub walks_are : (records : Records) (node : ℕ) (firsts xs ys : List ℕ) → AreWalks records node firsts xs → AreWalks records node firsts ys → xs ≡ ys
walks_are records node [] xs ys a b = a ∙ sym b
walks_are records node (first ∷ firsts) xs ys (met, later, one, rest, is) (seen, others, other, more, are) =
    is ∙ ap (λ zs. zs ++ later) (walk_is (next_of records node) first met seen (chain_walk records node first met one) (chain_walk records node first seen
    other))
    ∙ ap (λ zs. seen ++ zs) (walks_are records node firsts later others rest more) ∙ sym are

-- ---- what was met

-- the rows are of what was met, and what is left goes on from there
pub record HaveMet (s : State) (node : ℕ) (firsts left : List ℕ) (rows : List EdgeRow) : Type 0 where
  pub members : List ℕ
  pub are : rows ≡ map (edge_at s.records) members
  pub walks : (rest : List ℕ) → AreWalks s.records node left rest → AreWalks s.records node firsts (members ++ rest)

pub none_met : (s : State) (node : ℕ) (firsts : List ℕ) → HaveMet s node firsts firsts []
none_met s node firsts = record { members = []; are = refl; walks = λ rest h. h }

-- one chain more
pub chain_met : (s now : State) (n node first budget : ℕ) (firsts left : List ℕ) (rows chain_rows : List EdgeRow) → now ≡ after_gets n s
    → HasWalked now first node budget chain_rows → HaveMet s node firsts (first ∷ left) rows → HaveMet s node firsts left (rows ++ chain_rows)
chain_met s now n node first budget firsts left rows chain_rows reads walked met =
    let same = records_then s now n reads in
    let xs = walked.members in
    record {
      members = met.members ++ xs;
      are = (λ i. met.are i ++ (walked.are ∙ ap (λ (r : Records). map (edge_at r) xs) same) i) ∙ sym (map-append (edge_at s.records) met.members xs);
      walks = λ rest h. subst (AreWalks s.records node firsts) (sym (append_assoc met.members xs rest))
          (met.walks (xs ++ rest) (xs, rest, subst (λ (r : Records). IsChainFrom r node first xs) same walked.sound.chain, h, refl));
    }

-- the end
pub all_met : (s : State) (node : ℕ) (firsts left : List ℕ) (rows : List EdgeRow) → left ≡ [] → HaveMet s node firsts left rows → HaveWalked s node firsts rows
all_met s node firsts left rows none met = record {
  members = met.members;
  are = met.are;
  walks = subst (AreWalks s.records node firsts) (append-nil met.members) (met.walks [] (subst (λ fs. AreWalks s.records node fs []) (sym none) refl));
}

-- ---- what is left

-- walks to the end are left, of at most so many relationships
abbrev pub AreLeft : State → ℕ → List ℕ → ℕ → Type 0
AreLeft s node firsts left = (xs : List ℕ) × AreSoundWalks s node firsts left xs

-- the next chain has an end, as it is met after reads
pub record IsNext (s now : State) (node first budget total : ℕ) : Type 0 where
  pub members : List ℕ
  pub sound : IsSoundWalk now first node budget members
  pub few : length members ≤ total

pub chain_left : (s now : State) (n node first budget : ℕ) (firsts : List ℕ) → now ≡ after_gets n s → (left : AreLeft s node (first ∷ firsts) budget)
    → IsNext s now node first budget (length left.0)
chain_left s now n node first budget firsts reads (xs, sound) = by xs sound.walks sound.few sound.low
  where
    by : (xs : List ℕ) → AreWalks s.records node (first ∷ firsts) xs → length xs ≤ budget → ((x : ℕ) → In x xs → x < rel_mark s)
        → IsNext s now node first budget (length xs)
    by xs (ys, zs, walk, rest, is) few low =
        let long = ap length is ∙ length-append ys zs in
        record {
          members = ys;
          sound = record {
            chain = subst (λ (r : Records). IsChainFrom r node first ys) (sym (records_then s now n reads)) walk;
            few = omega arith;
            low = λ x i. let lt = low x (subst (In x) (sym is) (in_left x ys zs i)) in let same = mark_then s now n reads in omega arith;
          };
          few = omega arith;
        }

-- and so have those after it
pub rest_left : (s now : State) (n node first budget less : ℕ) (firsts : List ℕ) (chain_rows : List EdgeRow) → now ≡ after_gets n s
    → less ≡ budget - length chain_rows → HasWalked now first node budget chain_rows
    → AreLeft s node (first ∷ firsts) budget → AreLeft s node firsts less
rest_left s now n node first budget less firsts chain_rows reads fewer walked (xs, sound) = by xs sound.walks sound.few sound.low
  where
    by : (xs : List ℕ) → AreWalks s.records node (first ∷ firsts) xs → length xs ≤ budget → ((x : ℕ) → In x xs → x < rel_mark s) → AreLeft s node firsts less
    by xs (ys, zs, walk, rest, is) few low =
        let met = subst (λ (r : Records). IsChainFrom r node first walked.members) (records_then s now n reads) walked.sound.chain in
        let same : ys ≡ walked.members = walk_is (next_of s.records node) first ys walked.members (chain_walk s.records node first ys walk)
        (chain_walk s.records node first walked.members met) in
        let long : length chain_rows ≡ length ys = ap length walked.are ∙ length-map walked.members (edge_at now.records) ∙ ap length (sym same) in (
          zs,
          record {
            walks = rest;
            few = let both = ap length is ∙ length-append ys zs in omega (arith, long, both);
            low = λ x i. low x (subst (In x) (sym is) (in_right x ys zs i));
          },
        )

-- ---- reads

-- after as many reads as rows there are as many more
pub reads_more : (s now new : State) (rows more both : List EdgeRow) → both ≡ rows ++ more → now ≡ after_gets (length rows) s
    → new ≡ after_gets (length more) now → new ≡ after_gets (length both) s
reads_more s now new rows more both is so_far then =
    then ∙ ap (after_gets (length more)) so_far ∙ gets_add (length more) (length rows) s
    ∙ ap (λ n. after_gets n s) (let long = ap length is ∙ length-append rows more in omega arith)

-- What is left of the mark bounds the reads of one chain more.
pub mark_bounds : (s now new : State) (n mark budget : ℕ) → budget ≡ mark - n → now ≡ after_gets n s → ReadsAtMost mark s now → ReadsAtMost budget now new
    → ReadsAtMost mark s new
mark_bounds s now new n mark budget left so_far before more = ⊎_elim
    (λ (lt : n < mark). record {
      count = more.count + n;
      within = let few = more.within in omega arith;
      is = more.is ∙ ap (after_gets more.count) so_far
          ∙ gets_add more.count n s;
    })
    (λ (le : mark ≤ n).
    let none : more.count ≡ 0 = let few = more.within in omega arith in
    let same : new ≡ now = more.is ∙ ap (λ k. after_gets k now) none ∙ after_gets-zero now in
    subst (ReadsAtMost mark s) (sym same) before) (cases_lt n mark)

-- reads change no shape
pub shape-after_gets : (n : ℕ) (s : State) → (after_gets n s).shape ≡ s.shape
unfolding after_gets
shape-after_gets zero s = refl
shape-after_gets (suc n) s = shape-after_gets n s

pub room_then : (s now : State) (n : ℕ) → now ≡ after_gets n s → rel_room now ≡ rel_room s
room_then s now n reads = ap rel_room reads ∙ ap (λ (shape : Shape). room_of shape format.relationships_file) (shape-after_gets n s)

-- ---- reads, by what walks that end meet

-- What was met and what is left are the walks.
met_and_left : (s : State) (node most : ℕ) (firsts left : List ℕ) (rows : List EdgeRow) (xs : List ℕ) → HaveMet s node firsts left rows
    → (rest : AreLeft s node left most) → AreWalks s.records node firsts xs → length xs ≡ length rows + length rest.0
met_and_left s node most firsts left rows xs met rest walks =
    let long : length rows ≡ length met.members = ap length met.are ∙ length-map met.members (edge_at s.records) in
    ap length (walks_are s.records node firsts xs (met.members ++ rest.0) walks (met.walks rest.0 rest.1.walks)) ∙ length-append met.members rest.0
    ∙ ap (λ n. n + length rest.0) (sym long)

pub few_met : (s now : State) (node most : ℕ) (firsts left : List ℕ) (rows : List EdgeRow) (xs : List ℕ) → HaveMet s node firsts left rows
    → AreLeft s node left most → AreWalks s.records node firsts xs
    → now ≡ after_gets (length rows) s → ReadsAtMost (length xs) s now
few_met s now node most firsts left rows xs met rest walks reads =
    let long = met_and_left s node most firsts left rows xs met rest walks in
    record { count = length rows; within = omega arith; is = reads }

-- with those of one chain more
pub few_more : (s now new : State) (node most : ℕ) (firsts left : List ℕ) (rows : List EdgeRow) (xs : List ℕ) → HaveMet s node firsts left rows
    → (rest : AreLeft s node left most) → AreWalks s.records node firsts xs
    → now ≡ after_gets (length rows) s → (more : ℕ) → more ≤ length rest.0 → ReadsAtMost more now new → ReadsAtMost (length xs) s new
few_more s now new node most firsts left rows xs met rest walks reads more le then =
    let long = met_and_left s node most firsts left rows xs met rest walks in
    record {
      count = then.count + length rows;
      within = let few = then.within in omega arith;
      is = then.is ∙ ap (after_gets then.count) reads
          ∙ gets_add then.count (length rows) s;
    }

-- Why no record is said to be damaged where a dense node's group is found or made.
use Rattle.std.proofs.Common.{ℕ, List, refl}
use Rattle.rec_bytes.specs.Format as format
use Rattle.rec_bytes.specs.Space.{State}
use Rattle.store_rules.specs.Views.{first_link}
use Rattle.store_rules.proofs.ChainLaws.{walk_of_chain}
use Rattle.id_freelist.proofs.Splits.{can_take}
use Rattle.node_store.specs.Loading as nodes
use Rattle.node_store.proofs.Rows as node_rows
use Rattle.group_store.specs.GroupChain.{IsDense, IsGroupChain, LacksGroup}
use Rattle.group_store.specs.Making.{CanMake}
use Rattle.group_store.specs.Spreading.{KeepsBut}
use Rattle.group_store.specs.Walking.{IsWalkable}
use Rattle.group_store.proofs.GroupRules.{IsGroupChain-HasGroups}

module _ (s : State) (node : ℕ) (rest : List ℕ) (most : ℕ) (empty : List ℕ) (keeps : KeepsBut s.records s.shape node rest most empty)
    (dense : IsDense s.records node) where
  pub node_known : nodes.IsReadable s node
  node_known = node_rows.IsReadable-AreInRange s node keeps.others.ranges

  pub chain_ids : List ℕ
  chain_ids = (keeps.grouped.each node dense).members

  chain : IsGroupChain s.records node chain_ids
  unfolding chain_ids
  chain = IsGroupChain-HasGroups s.records s.shape node keeps.others.ranges (keeps.grouped.each node dense)

  pub can_walk : IsWalkable s node (first_link s.records node) chain_ids
  can_walk = record {
    mark = (keeps.others.ranges.metas format.groups_file refl).high;
    list = record { walk = walk_of_chain _ _ format.nil (first_link s.records node) chain_ids chain.chain; only = chain.only };
  }

  pub free_ids : List ℕ
  free_ids = (keeps.others.split format.groups_file refl).0

  pub can_make : (label : ℕ) → LacksGroup s.records node label → CanMake s node label free_ids chain_ids
  unfolding free_ids
  can_make label lacks = record {
    chain = chain;
    lacks = λ g i. lacks g (chain.only g i);
    take = can_take s format.groups_file (keeps.others.split format.groups_file refl).0 (keeps.others.ranges.metas format.groups_file refl).high
        (keeps.others.split format.groups_file refl).1;
  }

-- No record of a store that keeps the rules breaks one. So where an answer names a record only if it breaks a rule, it names none over a store that keeps them.
use Rattle.std.proofs.Common.{ℕ, ◌<◌, Err, IfErr, IfSome, List, None, Ok, Option, Result, Some, inl, inr, refl}
use Rattle.rec_bytes.specs.declared.damage.Damage.{Damage}
use Rattle.rec_bytes.specs.declared.shape.Shape.{Shape}
use Rattle.rec_bytes.specs.Fault.{IsUndamaged}
use Rattle.rec_bytes.specs.Format as format
use Rattle.store_rules.specs.Breaking.{AreChained, AreProperties, Breaks, BreaksAny, HasFreeList, NameKeeps}
use Rattle.store_rules.specs.Breaking.Breaks.{FreeList, GroupChains, GroupOwner, NameCount, NodeChain, OffFreeList}
use Rattle.store_rules.specs.Breaking.Breaks.{OwnRecord, OwnerGroups, RecordRange, RelEnds, WrongBlock, WrongDefinition}
use Rattle.store_rules.specs.Breaking.Breaks.{WrongDegree, WrongElement, WrongHolding, WrongMeta, WrongName, WrongText}
use Rattle.store_rules.specs.Indexes.{IsIndexed}
use Rattle.store_rules.specs.Rules as rules
use Rattle.store_rules.specs.Rules.{IsWellFormed, KeepsNames}
use Rattle.store_rules.specs.Views.{Records, high, is_live}
use Rattle.store_rules.proofs.ChainRules.{chained_of}
use Rattle.store_rules.proofs.ElementOwners.{label_kept}
use Rattle.store_rules.proofs.GroupOwners.{member_keeps, owner_keeps}
use Rattle.store_rules.proofs.IndexBreaches.{not_indexed}
use Rattle.store_rules.proofs.MetaRights.{metas_right}
use Rattle.store_rules.proofs.PropertyHolds.{block_kept, element_list, held_kept, text_kept}

-- where the store keeps the rule each name does
name_keeps : (records : Records) → KeepsNames records → (x : ℕ)
    → x < high records format.names_file → NameKeeps records x
name_keeps records h x lt = record { form = h.form x lt; alone = λ y low e. h.distinct y x low lt e }

module _ (records : Records) (shape : Shape) where
  free_kept : (file : ℕ) (free : List ℕ) → rules.IsSplit records file (is_live records file) free → HasFreeList records file
  free_kept file free s = record { members = free; list = record { walk = s.walk; low = s.low; only = s.only }; exact = s.exact }

  module _ (s : IsWellFormed records shape) where
    chains : AreChained records
    chains = chained_of records s.grouped s.linked

    properties : AreProperties records
    properties = record { properties = s.properties; named = s.named; defined = s.defined }

    -- where a store keeps the first seven rules, no record breaks one of them
    pub none_broken : (d : Damage) → ¬ Breaks records shape d
    none_broken d (OwnRecord bad) = bad (record { own = s.ranges.own; newest = s.ranges.newest })
    none_broken d (WrongMeta id lt bad) = bad (metas_right records shape s.ranges id lt)
    none_broken d (RecordRange file x is lt bad) = bad (s.ranges.fit file x is lt)
    none_broken d (FreeList file is bad) = let f = s.split file is in bad (free_kept file f.0 f.1)
    none_broken d (OffFreeList file x is lt free bad) =
        let f = s.split file is in bad (record { members = f.0; list = record { walk = f.1.walk; low = f.1.low; only = f.1.only }; member = f.1.all x lt free })
    none_broken d (NameCount bad) = bad (s.kept format.names_file refl refl)
    none_broken d (NodeChain n lt bad) = bad (chains.nodes n)
    none_broken d (GroupChains g lt on bad) = bad (chains.groups g on)
    none_broken d (RelEnds x lt bad) = bad (chains.rels x)
    none_broken d (OwnerGroups n lt bad) = bad (owner_keeps records s.grouped n)
    none_broken d (GroupOwner g bad) = bad (member_keeps records s.grouped s.exact g)
    none_broken d (WrongElement file x known lt bad) = bad (record {
      list = element_list records properties file x;
      named = label_kept records file x known
          s.named;
    })
    none_broken d (WrongHolding p bad) = bad (held_kept records properties p)
    none_broken d (WrongText p lt bad) = bad (text_kept records properties p)
    none_broken d (WrongBlock b bad) = bad (block_kept records properties b)
    none_broken d (WrongDefinition x lt bad) = bad (record { label = s.defined.labels x; key = s.defined.keys x })
    none_broken d (WrongName x lt bad) = bad (name_keeps records s.names x lt)
    none_broken d (WrongDegree n lt bad) = bad (record { exact = s.degrees.each n; few = s.degrees.few n })

    -- so an answer that blames a record only where it breaks one blames none
    pub unblamed : {T F : Type 0} (of : F → Option Damage) (result : Result T F) → IfErr result (λ fault. IfSome (of fault) (Breaks records shape))
        → IsUndamaged of result
    unblamed of (Ok value) told = tt
    unblamed of (Err fault) told = by (of fault) told
      where
        by : (o : Option Damage) → IfSome o (Breaks records shape) → IfSome o (λ _. ⊥)
        by None told = tt
        by (Some d) told = none_broken d told

  -- and where it keeps all eight, no record breaks any
  pub none_at_all : IsIndexed records shape → (d : Damage) → ¬ BreaksAny records shape d
  none_at_all s d (inl bad) = none_broken s.store d bad
  none_at_all s d (inr bad) = not_indexed records d bad s.indexes

-- What holds of a space holds of it after reads.
use Rattle.std.proofs.Common.{◌≡◌, ℕ, List, ap, sym, ◌∙◌, subst}
use Rattle.rec_bytes.specs.Format as format
use Rattle.rec_bytes.specs.Space.{SameButReads, State}
use Rattle.store_rules.specs.Indexes.{AreIndexed, Entries}
use Rattle.id_freelist.specs.Taking.{CanTake}
use Rattle.prop_index.specs.Collecting.{AreNodesReadable}
use Rattle.store_rules.specs.IndexBreaking.{AreDefinitions}
use Rattle.prop_index.specs.Gathering.{IsListedNode}
use Rattle.prop_index.specs.Reading.{HasRoom}
use Rattle.store_rules.specs.Views.{Records}
use Rattle.store_rules.specs.Rules.{IsWhole}

-- reads after reads
pub same_then : (a b c : State) → SameButReads a b → SameButReads b c → SameButReads a c
same_then a b c h k = k ∙ ap (λ (z : State). record z { reads = c.reads }) h

pub same_records : (a b : State) → SameButReads a b → b.records ≡ a.records
same_records a b same = ap (λ (z : State). z.records) same

pub room_after : (s z : State) (file : ℕ) → SameButReads s z → HasRoom s file → HasRoom z file
room_after s z file same room = subst (λ (y : State). HasRoom y file) (sym same) room

pub node_after : (s z : State) (n : ℕ) → SameButReads s z → IsListedNode s n → IsListedNode z n
node_after s z n same listed =
    let at : IsListedNode (record s { reads = z.reads }) n = record {
      room = listed.room;
      low = listed.low;
      used = listed.used;
      properties = listed.properties;
      has = listed.has;
    } in
    subst (λ (y : State). IsListedNode y n) (sym same) at

pub can_after : (s z : State) (free : List ℕ) → SameButReads s z → CanTake s format.index_file free → CanTake z format.index_file free
can_after s z free same can =
    let at : CanTake (record s { reads = z.reads }) format.index_file free =
    record { list = can.list; low = can.low; unused = can.unused; count = can.count; mark = can.mark } in
    subst (λ (y : State). CanTake y format.index_file free) (sym same) at

pub readable_after : (s z : State) → SameButReads s z → AreNodesReadable s → AreNodesReadable z
readable_after s z same h =
    let at : AreNodesReadable (record s { reads = z.reads }) = record {
      room = h.room;
      each = λ n used. let k = h.each n used in record {
        room = k.room;
        low =
            k.low;
        used = k.used;
        properties = k.properties;
        has = k.has;
      };
    } in
    subst AreNodesReadable (sym same) at

pub kept_after : (s z : State) → SameButReads s z → IsWhole s → IsWhole z
kept_after s z same kept = subst IsWhole (sym same) kept

-- the definitions of indexes
pub definitions_of : (s : Records) (wanted : Entries) (ix : AreIndexed s wanted) → AreDefinitions s ix.definitions
definitions_of s wanted ix = record { walk = ix.walk; few = ix.few; defined = ix.defined }

pub definitions_after : (s z : State) (ds : List ℕ) → SameButReads s z → AreDefinitions s.records ds → AreDefinitions z.records ds
definitions_after s z ds same are = subst (λ (r : Records). AreDefinitions r ds) (sym (same_records s z same)) are

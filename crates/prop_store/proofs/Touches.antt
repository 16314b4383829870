-- What calls touch, one after another.
use Rattle.std.proofs.Common.{◌≡◌, ◌⊎◌, ℕ, ◌+◌, ◌≤◌, true, false, List, [], ◌∷◌, ◌++◌, length, map, sym, ap, ◌∙◌, subst}
use Rattle.std.proofs.Common.{inl, inr, ⊎_elim, arith, refl, length-append}
use Rattle.rec_bytes.specs.declared.key.Key.{Key}
use Rattle.rec_bytes.specs.declared.record.Rec.{Rec}
use Rattle.rec_bytes.specs.Format as format
use Rattle.rec_bytes.specs.Key.{key_eq}
use Rattle.rec_bytes.specs.RecordFiles.{meta_key_of}
use Rattle.rec_bytes.specs.Space.{IsAmong, SameButReads, State, WritesOnly, after_get, after_put, after_set}
use Rattle.rec_bytes.proofs.KeyLaws.{key_eq_true}
use Rattle.rec_bytes.proofs.Spaces.{writes_one}
use Rattle.store_rules.specs.Chains.{In}
use Rattle.store_rules.specs.Views.{key_in}
use Rattle.prop_store.specs.Link.{IsLinkOf}
use Rattle.prop_store.specs.Touching.{TouchesOnly, TouchesProperties, property_keys}
use Rattle.prop_store.specs.declared.link.Link.{Link}
use Rattle.prop_store.specs.declared.owner.Owner.{Owner}
use Rattle.prop_store.proofs.ListLaws.{in_left, in_right}

-- ---- keys among keys

pub among_left : (q : Key) (xs ys : List Key) → IsAmong q xs → IsAmong q (xs ++ ys)
among_left q [] ys i = elim i [ ]
among_left q (x ∷ xs) ys (inl e) = inl e
among_left q (x ∷ xs) ys (inr i) = inr (among_left q xs ys i)

pub among_right : (q : Key) (xs ys : List Key) → IsAmong q ys → IsAmong q (xs ++ ys)
among_right q [] ys i = i
among_right q (x ∷ xs) ys i = inr (among_right q xs ys i)

pub among_either : (q : Key) (xs ys : List Key) → IsAmong q (xs ++ ys) → IsAmong q xs ⊎ IsAmong q ys
among_either q [] ys i = inr i
among_either q (x ∷ xs) ys (inl e) = inl (inl e)
among_either q (x ∷ xs) ys (inr i) = ⊎_elim (λ k. inl (inr k)) (λ k. inr k) (among_either q xs ys i)

-- the keys of identifiers of a file
pub among_map : (file x : ℕ) (xs : List ℕ) → In x xs → IsAmong (key_in file x) (map (key_in file) xs)
among_map file x [] i = elim i [ ]
among_map file x (y ∷ xs) (inl e) = inl (ap (key_in file) e)
among_map file x (y ∷ xs) (inr i) = inr (among_map file x xs i)

among_more : (file : ℕ) (q : Key) (xs ys : List ℕ) → ((x : ℕ) → In x xs → In x ys) → IsAmong q (map (key_in file) xs) → IsAmong q (map (key_in file) ys)
among_more file q [] ys into i = elim i [ ]
among_more file q (x ∷ xs) ys into (inl e) = subst (λ z. IsAmong z (map (key_in file) ys)) (sym e) (among_map file x ys (into x (inl refl)))
among_more file q (x ∷ xs) ys into (inr i) = among_more file q xs ys (λ y j. into y (inr j)) i

-- the meta records of the two files
abbrev pub metas : List Key
metas = meta_key_of format.properties_file ∷ meta_key_of format.strings_file ∷ []

-- the keys of a change, by the part that they are in
pub among_ids : (q : Key) (links : List Key) (ids blocks : List ℕ) → IsAmong q (map (key_in format.properties_file) ids)
    → IsAmong q (links ++ property_keys ids blocks)
among_ids q links ids blocks i = among_right q links (property_keys ids blocks) (among_left q (map (key_in format.properties_file) ids) _ i)

pub among_blocks : (q : Key) (links : List Key) (ids blocks : List ℕ) → IsAmong q (map (key_in format.strings_file) blocks ++ metas)
    → IsAmong q (links ++ property_keys ids blocks)
among_blocks q links ids blocks i = among_right q links (property_keys ids blocks) (among_right q (map (key_in format.properties_file) ids) _ i)

-- more of each part
among_all : (q : Key) (links more : List Key) (ids others blocks later : List ℕ) → (IsAmong q links → IsAmong q (more ++ property_keys others later))
    → ((x : ℕ) → In x ids → In x others) → ((x : ℕ) → In x blocks → In x later)
    → IsAmong q (links ++ property_keys ids blocks) → IsAmong q (more ++ property_keys others later)
among_all q links more ids others blocks later first second third i =
    ⊎_elim first
    (λ j. ⊎_elim (λ k. among_ids q more others later (among_more format.properties_file q ids others second k))
    (λ k. among_blocks q more others later (⊎_elim (λ l. among_left q (map (key_in format.strings_file) later) metas (among_more format.strings_file q blocks
    later third l)) (λ l. among_right q (map (key_in format.strings_file) later) metas l)
    (among_either q (map (key_in format.strings_file) blocks) metas k)))
    (among_either q (map (key_in format.properties_file) ids) _ j))
    (among_either q links (property_keys ids blocks) i)

-- ---- what is touched

pub only_then : {tells : Type 0} (s t u : State) (xs ys zs : List Key) → ((q : Key) → IsAmong q xs → IsAmong q zs) → ((q : Key) → IsAmong q ys → IsAmong q zs)
    → TouchesOnly tells s t xs → TouchesOnly tells t u ys → TouchesOnly tells s u zs
only_then s t u xs ys zs left right h g = record {
  writes = record { each = λ q w. ⊎_elim (λ k. ⊎_elim (λ o. inl o) (λ i. inr (left q i)) (h.writes.each q k)) (λ i. inr (right q i)) (g.writes.each q w) };
  stays = λ tells. record {
    each = λ q. ⊎_elim (λ e. ⊎_elim (λ f. inl (e ∙ f)) (λ i. inr (left q i)) ((h.stays tells).each q)) (λ i. inr (right q i))
        ((g.stays tells).each q);
  };
}

pub only_more : {tells : Type 0} (s t : State) (xs ys : List Key) → ((q : Key) → IsAmong q xs → IsAmong q ys) → TouchesOnly tells s t xs
    → TouchesOnly tells s t ys
only_more s t xs ys into h = record {
  writes = record { each = λ q w. ⊎_elim (λ o. inl o) (λ i. inr (into q i)) (h.writes.each q w) };
  stays = λ tells. record { each = λ q. ⊎_elim (λ e. inl e) (λ i. inr (into q i)) ((h.stays tells).each q) };
}

-- reads
only_reads : {tells : Type 0} (s t : State) (keys : List Key) → SameButReads s t → TouchesOnly tells s t keys
only_reads s t keys same = record {
  writes = record { each = λ q w. inl (ap (λ (z : State). z.written q) (sym same) ∙ w) };
  stays = λ tells. record { each = λ q. inl (ap (λ (z : State). z.records q) same) };
}

-- a record
pub only_put : {tells : Type 0} (s t : State) (key : Key) (rec : Rec) → t ≡ after_put s key rec → TouchesOnly tells s t (key ∷ [])
only_put s t key rec is = record {
  writes = writes_one s t key (ap (λ (z : State). z.written) is);
  stays = λ tells. record { each = λ q. by q (key_eq q key) refl };
}
  where
    by : (q : Key) (b : _) → key_eq q key ≡ b → (t.records q ≡ s.records q) ⊎ IsAmong q (key ∷ [])
    by q true e = inr (inl (key_eq_true q key e))
    by q false e = inl (ap (λ (z : State). z.records q) is ∙ rw e refl)

pub only_set : {tells : Type 0} (s t : State) (key : Key) (n at value : ℕ) → WritesOnly s t (key ∷ []) → (tells → t ≡ after_set s key n at value)
    → TouchesOnly tells s t (key ∷ [])
only_set {tells = tells} s t key n at value writes is = record {
  writes = writes;
  stays = λ told.
      record { each = ((only_put {tells = tells} (after_get s) t key _ (is told)).stays told).each };
}

-- ---- properties and blocks

pub touches_reads : {tells : Type 0} (links : List Key) (n m : ℕ) (s t : State) → SameButReads s t → TouchesProperties tells links n m s t
touches_reads links n m s t same = record {
  ids = [];
  block_ids = [];
  few_ids = omega arith;
  few_blocks = omega arith;
  only = only_reads s t
      (links ++ property_keys [] []) same;
}

pub touches_more : {tells : Type 0} (links : List Key) (n m n2 m2 : ℕ) (s t : State) → n ≤ n2 → m ≤ m2 → TouchesProperties tells links n m s t
    → TouchesProperties tells links n2 m2 s t
touches_more links n m n2 m2 s t le le2 h = record {
  ids = h.ids;
  block_ids = h.block_ids;
  few_ids = let f = h.few_ids in omega arith;
  few_blocks = let f =
      h.few_blocks in omega arith;
  only = h.only;
}

-- a call that left the space as it was
pub touches_same : {tells : Type 0} (links : List Key) (n m n2 m2 : ℕ) (s t u : State) → n ≤ n2 → m ≤ m2 → u ≡ t → TouchesProperties tells links n m s t
    → TouchesProperties tells links n2 m2 s u
touches_same {tells = tells} links n m n2 m2 s t u le le2 same h = subst (λ (z : State). TouchesProperties tells links n2 m2 s z) (sym same)
    (touches_more links n m n2 m2 s t le le2 h)

-- besides links
pub touches_beside : {tells : Type 0} (links : List Key) (n m : ℕ) (s t : State) → TouchesProperties tells [] n m s t → TouchesProperties tells links n m s t
touches_beside links n m s t h = record {
  ids = h.ids;
  block_ids = h.block_ids;
  few_ids = h.few_ids;
  few_blocks = h.few_blocks;
  only = only_more s t
      (property_keys h.ids h.block_ids) (links ++ property_keys h.ids h.block_ids) (λ q i. among_right q links _ i) h.only;
}

-- one after the other
pub touches_then : {tells : Type 0} (links : List Key) (n m n2 m2 n3 m3 : ℕ) (s t u : State) → n + n2 ≤ n3 → m + m2 ≤ m3 → TouchesProperties tells links n m s t
    → TouchesProperties tells links n2 m2 t u → TouchesProperties tells links n3 m3 s u
touches_then links n m n2 m2 n3 m3 s t u le le2 h g = record {
  ids = h.ids ++ g.ids;
  block_ids = h.block_ids ++ g.block_ids;
  few_ids = let a = h.few_ids in let b = g.few_ids in omega (arith, length-append h.ids g.ids);
  few_blocks = let a = h.few_blocks in let b = g.few_blocks in omega (arith, length-append h.block_ids g.block_ids);
  only = only_then s t u (links ++ property_keys h.ids h.block_ids) (links ++ property_keys g.ids g.block_ids)
      (links ++ property_keys (h.ids ++ g.ids) (h.block_ids ++ g.block_ids))
      (λ q i. among_all q links links h.ids (h.ids ++ g.ids) h.block_ids (h.block_ids ++ g.block_ids) (λ j. among_left q links _ j)
      (λ x j. in_left x h.ids g.ids j) (λ x j. in_left x h.block_ids g.block_ids j) i)
      (λ q i. among_all q links links g.ids (h.ids ++ g.ids) g.block_ids (h.block_ids ++ g.block_ids) (λ j. among_left q links _ j)
      (λ x j. in_right x h.ids g.ids j) (λ x j. in_right x h.block_ids g.block_ids j) i)
      h.only g.only;
}

-- the record of a property
pub touches_put : {tells : Type 0} (s t : State) (id : ℕ) (rec : Rec) → t ≡ after_put s (key_in format.properties_file id) rec
    → TouchesProperties tells [] 1 0 s t
touches_put s t id rec is = record {
  ids = id ∷ [];
  block_ids = [];
  few_ids = omega arith;
  few_blocks = omega arith;
  only = only_more s t
      (key_in format.properties_file id ∷ []) (property_keys (id ∷ []) []) (λ q i. among_left q (key_in format.properties_file id ∷ []) metas i)
      (only_put s t (key_in format.properties_file id) rec is);
}

-- the record of a block
pub touches_block : {tells : Type 0} (s t : State) (id : ℕ) (rec : Rec) → t ≡ after_put s (key_in format.strings_file id) rec
    → TouchesProperties tells [] 0 1 s t
touches_block s t id rec is = record {
  ids = [];
  block_ids = id ∷ [];
  few_ids = omega arith;
  few_blocks = omega arith;
  only = only_more s t
      (key_in format.strings_file id ∷ []) (property_keys [] (id ∷ [])) (λ q i. among_left q (key_in format.strings_file id ∷ []) metas i)
      (only_put s t (key_in format.strings_file id) rec is);
}

-- an identifier that is taken, of a property or of a block
pub touches_property_taken : {tells : Type 0} (s t : State) → TouchesOnly tells s t (meta_key_of format.properties_file ∷ [])
    → TouchesProperties tells [] 0 0 s t
touches_property_taken s t h = record {
  ids = [];
  block_ids = [];
  few_ids = omega arith;
  few_blocks = omega arith;
  only = only_more s t
      (meta_key_of format.properties_file ∷ []) (property_keys [] []) (λ q i. among_left q (meta_key_of format.properties_file ∷ [])
      (meta_key_of format.strings_file ∷ []) i) h;
}

pub touches_block_taken : {tells : Type 0} (s t : State) → TouchesOnly tells s t (meta_key_of format.strings_file ∷ []) → TouchesProperties tells [] 0 0 s t
touches_block_taken s t h = record {
  ids = [];
  block_ids = [];
  few_ids = omega arith;
  few_blocks = omega arith;
  only = only_more s t
      (meta_key_of format.strings_file ∷ []) (property_keys [] []) (λ q i. inr i) h;
}

-- a property that is given back
pub touches_given : {tells : Type 0} (s t : State) (id : ℕ) → TouchesOnly tells s t (key_in format.properties_file id ∷ meta_key_of format.properties_file ∷ [])
    → TouchesProperties tells [] 1 0 s t
touches_given s t id h = record {
  ids = id ∷ [];
  block_ids = [];
  few_ids = omega arith;
  few_blocks = omega arith;
  only = only_more s t (key_in format.properties_file id ∷ meta_key_of format.properties_file ∷ []) (property_keys (id ∷ []) [])
      (λ q i. among_left q (key_in format.properties_file id ∷ meta_key_of format.properties_file ∷ []) (meta_key_of format.strings_file ∷ []) i) h;
}

-- blocks that are given back
pub touches_released : {tells : Type 0} (s t : State) (blocks : List ℕ)
    → TouchesOnly tells s t (meta_key_of format.strings_file ∷ map (key_in format.strings_file) blocks) → TouchesProperties tells [] 0 (length blocks) s t
touches_released s t blocks h = record {
  ids = [];
  block_ids = blocks;
  few_ids = omega arith;
  few_blocks = omega arith;
  only = only_more s t (meta_key_of format.strings_file ∷ map (key_in format.strings_file) blocks) (property_keys [] blocks)
      (λ q i. ⊎_elim (λ (e : q ≡ meta_key_of format.strings_file). among_right q (map (key_in format.strings_file) blocks) metas (inr (inl e)))
      (λ j. among_left q (map (key_in format.strings_file) blocks) metas j) i) h;
}

-- properties that are given back
pub touches_returned : {tells : Type 0} (s t : State) (ids : List ℕ) → TouchesOnly tells s t
    (meta_key_of format.properties_file ∷ map (key_in format.properties_file) ids) → TouchesProperties tells [] (length ids) 0 s t
touches_returned s t ids h = record {
  ids = ids;
  block_ids = [];
  few_ids = omega arith;
  few_blocks = omega arith;
  only = only_more s t (meta_key_of format.properties_file ∷ map (key_in format.properties_file) ids) (property_keys ids [])
      (λ q i. ⊎_elim (λ (e : q ≡ meta_key_of format.properties_file). among_right q (map (key_in format.properties_file) ids) metas (inl e))
      (λ j. among_left q (map (key_in format.properties_file) ids) metas j) i) h;
}

-- one of several blocks
pub only_given : {tells : Type 0} (a b c : State) (file id : ℕ) (blocks : List ℕ) → In id blocks
    → TouchesOnly tells a b (meta_key_of file ∷ map (key_in file) blocks) → TouchesOnly tells b c (key_in file id ∷ meta_key_of file ∷ [])
    → TouchesOnly tells a c (meta_key_of file ∷ map (key_in file) blocks)
only_given a b c file id blocks i = only_then a b c (meta_key_of file ∷ map (key_in file) blocks) (key_in file id ∷ meta_key_of file ∷ [])
    (meta_key_of file ∷ map (key_in file) blocks) (λ q k. k)
    (λ q k. ⊎_elim (λ (e : q ≡ key_in file id). inr (subst (λ z. IsAmong z (map (key_in file) blocks)) (sym e) (among_map file id blocks i)))
    (λ k. ⊎_elim (λ e. inl e) (λ (j : ⊥). absurd j) k) k)

-- the record of an element, in which a number is set
pub touches_owner : {tells : Type 0} (s t : State) (key : Key) (n at value : ℕ) → WritesOnly s t (key ∷ []) → (tells → t ≡ after_set s key n at value)
    → TouchesProperties tells (key ∷ []) 0 0 s t
touches_owner s t key n at value writes is = record {
  ids = [];
  block_ids = [];
  few_ids = omega arith;
  few_blocks = omega arith;
  only = only_more s t (key ∷ []) (key ∷ property_keys [] []) (λ q i. among_left q (key ∷ []) metas i) (only_set s t key n at value writes is);
}

-- the place of a link
pub touches_link : {tells : Type 0} (owner : Owner) (link : Link) (s t : State) (n at value : ℕ) → IsLinkOf owner link → WritesOnly s t (link.key ∷ [])
    → (tells → t ≡ after_set s link.key n at value) → TouchesProperties tells (owner.key ∷ []) 1 0 s t
touches_link {tells = tells} owner link s t n at value from writes is = record {
  ids = link.key.id ∷ [];
  block_ids = [];
  few_ids = omega arith;
  few_blocks = omega arith;
  only = only_more s t (link.key ∷ []) (owner.key ∷ property_keys (link.key.id ∷ []) [])
      (λ q i. ⊎_elim (λ (e : q ≡ link.key). ⊎_elim (λ f. inl (e ∙ f)) (λ f. inr (inl (e ∙ ap (λ z. key_in z link.key.id) f))) from) (λ (j : ⊥). absurd j) i)
      (only_set s t link.key n at value writes is);
}

-- ---- parts of a change

-- after reads, blocks are given back
pub touches_freed : {tells : Type 0} (s a b : State) (blocks : List ℕ) → SameButReads s a
    → TouchesOnly tells a b (meta_key_of format.strings_file ∷ map (key_in format.strings_file) blocks) → TouchesProperties tells [] 0 (length blocks) s b
touches_freed s a b blocks same h = touches_then [] 0 0 0 (length blocks) 0 (length blocks) s a b (omega arith) (omega arith) (touches_reads [] 0 0 s a same)
    (touches_released a b blocks h)

-- and then their property
pub touches_dropped : {tells : Type 0} (s a b t : State) (id : ℕ) (blocks : List ℕ) → SameButReads s a
    → TouchesOnly tells a b (meta_key_of format.strings_file ∷ map (key_in format.strings_file) blocks)
    → TouchesOnly tells b t (key_in format.properties_file id ∷ meta_key_of format.properties_file ∷ []) → TouchesProperties tells [] 1 (length blocks) s t
touches_dropped s a b t id blocks same h g = touches_then [] 0 (length blocks) 1 0 1 (length blocks) s b t (omega arith) (omega arith)
    (touches_freed s a b blocks same h) (touches_given b t id g)

-- and then several properties
pub touches_all : {tells : Type 0} (s a b t : State) (ids blocks : List ℕ) → SameButReads s a
    → TouchesOnly tells a b (meta_key_of format.strings_file ∷ map (key_in format.strings_file) blocks)
    → TouchesOnly tells b t (meta_key_of format.properties_file ∷ map (key_in format.properties_file) ids)
    → TouchesProperties tells [] (length ids) (length blocks) s t
touches_all s a b t ids blocks same h g = touches_then [] 0 (length blocks) (length ids) 0 (length ids) (length blocks) s b t (omega arith) (omega arith)
    (touches_freed s a b blocks same h) (touches_returned b t ids g)

-- after reads, a call
pub touches_after : {tells : Type 0} (links : List Key) (n m : ℕ) (s a b : State) → SameButReads s a → TouchesProperties tells links n m a b
    → TouchesProperties tells links n m s b
touches_after links n m s a b same h = touches_then links 0 0 n m n m s a b (omega arith) (omega arith) (touches_reads links 0 0 s a same) h

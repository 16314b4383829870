-- What stands last: nothing, pairs, a name or none, a query. Each is told by a blank or the line's end.
use Rattle.std.proofs.Common.{◌≡◌, ◌≢◌, ◌⊎◌, inl, inr, ℕ, false, Option, Some, None, List, [], ◌∷◌, ◌++◌, codes, refl}
use Rattle.std.proofs.Common.{sym, ap, ◌∙◌, subst, ⊎_elim, append_assoc}
use Rattle.std.specs.List.{AllByRecursion}
use Rattle.plain_graph.specs.Names.{IsName}
use Rattle.plain_graph.specs.declared.command.Command.TheVariants as commands
use Rattle.gremlin_parse.specs.Grammar.{Gap, Name, Blanks, AreBlanks, IsMadeOf, IsBounded, name_to_end}
use Rattle.gremlin_parse.specs.Reading.{StartsName}
use Rattle.gremlin_parse.specs.Symbols.{Symbol, AnyBlanks, AnyGap, AnyName, Takes, Reads, ReadsAll, LeavesOne, Follows, BadFollows}
use Rattle.gremlin_parse.specs.Stopping.{Bads, IsStop, StopsWith, IsEnd, NoBad, IsOneOf, BadInOne}
use Rattle.gremlin_parse.specs.Lasts.{LastContentOf, last_parts, LastIs, SomeLast, BadInLast, is_query}
use Rattle.gremlin_parse.specs.declared.bad_token.BadToken.{BadToken}
use Rattle.gremlin_parse.specs.declared.last.LastPart.{LastPart}
use Rattle.gremlin_parse.specs.declared.last.LastPart.TheVariants as lasts
use Rattle.gremlin_parse.specs.declared.stop.Stop.{Stop}
use Rattle.gremlin_parse.specs.declared.viewed.Viewed.TheVariants as views
use Rattle.gremlin_parse.proofs.Names.{name_starts}
use Rattle.gremlin_parse.proofs.Symbols.{no_blanks}
use Rattle.gremlin_parse.proofs.Productions.{Closes, follows_halts, bad_follows_halts, stop_among, stop_after_all, Then-name-starts}
use Rattle.gremlin_parse.proofs.Spelling.{ThenParts, follows_of_parts, parts_of_follows, follows_agree, then_of_bad_follows, bad_follows_of_then, no_bad_within}
use Rattle.gremlin_parse.proofs.Repeats.{Language, bad_parts_within, stop_of_second}
use Rattle.gremlin_parse.proofs.Pairs.{AtEnd, pairs_close, pairs_agree, no_bad_pairs, end_halts, end_no_bad, end_blanks}
use Rattle.gremlin_parse.proofs.Pairs.{no_name, first_blanks, some_byte, not_at_end}
use Rattle.gremlin_parse.proofs.Ends.{every, line_closes, stop_at_end}
use Rattle.gremlin_parse.proofs.Ends as line_end
use Rattle.gremlin_parse.proofs.QueryLaws.{queries_close, queries_agree}
use Rattle.gremlin_parse.proofs.Views.{no_bad_views, views_agree, views_close}

-- ---- nothing but blanks

abbrev Nothing : Language
Nothing rest = SomeLast lasts.End rest

end_closes : Closes no_blanks Nothing (BadInLast lasts.End)
end_closes = record {
  ends = λ class halts rest (last, made). end_halts class halts rest made;
  bads_end = λ kind left class halts rest (last, bad). absurd (end_no_bad kind left rest bad);
  within = λ kind place rest (last, bad). absurd (end_no_bad kind place rest bad);
  line = [];
  some = (tt, ([], [], refl, tt, refl));
}

abbrev blanks_end : List Symbol
blanks_end = AnyBlanks ∷ []

-- a stop after blanks
pub stop_at_nothing : (Lack : Type 0) (bytes rest : List ℕ) (stop : Stop) → Reads AnyBlanks tt bytes rest → StopsWith (line_end.AtEnd rest) stop
    → IsStop Nothing (BadInLast lasts.End) Lack bytes stop
stop_at_nothing Lack bytes rest stop blanks at =
    stop_of_second (λ _. ⊥) (Follows blanks_end (λ _. IsEnd)) Nothing (BadFollows blanks_end NoBad) (BadInLast lasts.End)
    (λ b follows. (tt, (parts_of_follows blanks_end (λ _. IsEnd) b follows).is))
    (λ b (last, made). inr (follows_of_parts blanks_end (tt, tt) (λ _. IsEnd) (tt, tt) b made))
    (λ read b more none. absurd none)
    Lack bytes stop (λ none. none)
    (λ kind left bad. (tt, (then_of_bad_follows every blanks_end refl NoBad kind left bytes bad).bad))
    (λ kind left (last, bad). absurd (end_no_bad kind left bytes bad))
    (stop_after_all every blanks_end refl IsEnd NoBad line_closes Lack (tt, tt) bytes rest stop (rest, blanks, refl) (stop_at_end Lack rest stop at))

-- ---- a name or none

abbrev pub name_end : List Symbol
name_end = AnyGap ∷ AnyName ∷ AnyBlanks ∷ []

abbrev MaybeName : Language
MaybeName rest = IsOneOf name_to_end rest

abbrev BadMaybe : Bads
BadMaybe kind left rest = BadInOne name_to_end kind left rest

abbrev OneName : Language
OneName rest = Follows name_end (λ _. IsEnd) rest

-- a name with what is around it, by its parts
of_name : (name rest : List ℕ) → IsMadeOf (name_to_end (Some name)) rest → OneName rest
of_name name rest made = follows_of_parts name_end (tt, (name, (tt, tt))) (λ _. IsEnd) (tt, (tt, (tt, tt))) rest made

name_cases : (rest : List ℕ) → MaybeName rest → AtEnd rest ⊎ OneName rest
name_cases rest (None, made) = inl made
name_cases rest (Some name, made) = inr (of_name name rest made)

bad_cases : (kind : BadToken) (left : ℕ) (rest : List ℕ) → BadMaybe kind left rest → BadFollows name_end NoBad kind left rest
bad_cases kind left rest (None, bad) = absurd (end_no_bad kind left rest bad)
bad_cases kind left rest (Some name, bad) = bad_follows_of_then name_end (tt, (name, (tt, tt))) (tt, (tt, (tt, tt))) NoBad kind left rest bad

bad_join : (kind : BadToken) (left : ℕ) (rest : List ℕ) → BadFollows name_end NoBad kind left rest → BadMaybe kind left rest
bad_join kind left rest bad = let found = then_of_bad_follows every name_end refl NoBad kind left rest bad in (Some found.contents.1.0, found.bad)

name_join : (rest : List ℕ) → OneName rest → MaybeName rest
name_join rest one = let found = parts_of_follows name_end (λ _. IsEnd) rest one in (Some found.contents.1.0, found.is)

maybe_closes : Closes no_blanks MaybeName BadMaybe
maybe_closes = record {
  ends = λ class halts rest last. ⊎_elim (λ (end : AtEnd rest). end_halts class halts rest end)
      (λ (one : OneName rest). follows_halts class false name_end halts (λ _. IsEnd) (λ these impossible. cc) rest one) (name_cases rest last);
  bads_end = λ kind left class halts rest bad. bad_follows_halts class false name_end halts NoBad kind left (λ impossible. cc) rest
      (bad_cases kind left rest bad);
  within = λ kind place rest (name, bad). bad_parts_within (name_to_end name) kind place rest bad;
  line = [];
  some = (None, ([], [], refl, tt, refl));
}

-- No name stands in blanks.
apart : (rest : List ℕ) → AtEnd rest → ¬ OneName rest
apart rest end = λ (content, allows, (gap, more, whole, gap_is, (name, allows_name, then))).
    no_name gap more (subst AreBlanks whole (end_blanks rest end)) (Then-name-starts _ name more then)

bads_apart : (kind : BadToken) (left : ℕ) (rest : List ℕ) → AtEnd rest → ¬ BadFollows name_end NoBad kind left rest
bads_apart kind left rest end = λ bad. refuse bad
  where
    refuse : BadFollows name_end NoBad kind left rest → ⊥
    refuse (inl here) = here.1
    refuse (inr (content, allows, (gap, more, whole, gap_is, inl (name, bad, after, takes, place)))) =
        no_name gap more (subst AreBlanks whole (end_blanks rest end)) (subst StartsName (sym takes.bytes_are) (name_starts takes.prefix after
        (subst IsName (sym takes.is.0) takes.is.1)))
    refuse (inr (content, allows, (gap, more, whole, gap_is, inr (name, allows_name, then)))) =
        no_name gap more (subst AreBlanks whole (end_blanks rest end)) (Then-name-starts _ name more then)

-- After blanks a name may come.
name_goes_on : (read : List ℕ) (b : ℕ) (more : List ℕ) → AtEnd (read ++ b ∷ more) → (line : List ℕ) × OneName (read ++ b ∷ line)
name_goes_on read b more end =
    let blanks = first_blanks read b more (end_blanks (read ++ b ∷ more) end) in (
      codes "a",
      (
        tt,
        tt,
        (
          read ++ b ∷ [],
          codes "a",
          sym (append_assoc read (b ∷ []) (codes "a")),
          (blanks, some_byte read b),
          (codes "a", tt, (codes "a", [], refl, (refl, (refl, tt)), (tt, tt, ([], [], refl, tt, refl)))),
        ),
      ),
    )

stop_of_name : (Lack : Type 0) (rest : List ℕ) (stop : Stop) → ¬ AtEnd rest → IsStop OneName (BadFollows name_end NoBad) Lack rest stop
    → IsStop MaybeName BadMaybe Lack rest stop
stop_of_name Lack rest stop other at =
    stop_of_second AtEnd OneName MaybeName (BadFollows name_end NoBad) BadMaybe name_join name_cases name_goes_on Lack rest stop other
    (λ kind left bad. bad_join kind left rest bad) (λ kind left bad. bad_cases kind left rest bad) at

-- a stop in the name
pub stop_in_name : (Lack : Type 0) (bytes blanks : List ℕ) (stop : Stop) → Takes AnyBlanks tt bytes blanks → blanks ≢ [] → LeavesOne name_end bytes stop
    → IsStop MaybeName BadMaybe Lack bytes stop
stop_in_name Lack bytes blanks stop takes some leaves =
    stop_of_name Lack bytes stop (not_at_end bytes blanks takes some) (stop_among every name_end refl IsEnd NoBad line_closes Lack bytes stop leaves)

-- a stop after the name
pub stop_after_name : (Lack : Type 0) (bytes blanks : List ℕ) (name rest : List ℕ) (stop : Stop) → Takes AnyBlanks tt bytes blanks → blanks ≢ []
    → ReadsAll name_end (tt, (name, (tt, tt))) bytes rest → StopsWith (line_end.AtEnd rest) stop → IsStop MaybeName BadMaybe Lack bytes stop
stop_after_name Lack bytes blanks name rest stop takes some reads at =
    stop_of_name Lack bytes stop (not_at_end bytes blanks takes some) (stop_after_all every name_end refl IsEnd NoBad line_closes Lack (tt, (name, (tt, tt)))
    bytes rest stop reads (stop_at_end Lack rest stop at))

maybe_agrees : (one two : Option (List ℕ)) (rest : List ℕ) → IsMadeOf (name_to_end one) rest → IsMadeOf (name_to_end two) rest → two ≡ one
maybe_agrees None None rest made other = refl
maybe_agrees None (Some name) rest made other = absurd (apart rest made (of_name name rest other))
maybe_agrees (Some name) None rest made other = absurd (apart rest other (of_name name rest made))
maybe_agrees (Some name) (Some second) rest made other =
    let One : List ℕ → Language = λ this end. (this ≡ name) × (end ≡ []) in
    let Two : List ℕ → Language = λ this end. (this ≡ second) × (end ≡ []) in
    let first = follows_of_parts name_end (tt, (name, (tt, tt))) (λ these. One these.1.0) (tt, (tt, (tt, tt))) rest (named name rest made) in
    let others = follows_of_parts name_end (tt, (second, (tt, tt))) (λ these. Two these.1.0) (tt, (tt, (tt, tt))) rest (named second rest other) in
    let found = follows_agree every name_end refl (λ these. One these.1.0) (λ these. Two these.1.0)
    (λ these class is end (same, ends). line_end.end_halts class is end ends) (λ these class is end (same, ends). line_end.end_halts class is end ends) rest
    first others in
    ap (λ (n : List ℕ). Some n) (sym found.two.0 ∙ found.one.0)
  where
    named : (this bytes : List ℕ) → IsMadeOf (name_to_end (Some this)) bytes
        → ThenParts (Gap ∷ Name this ∷ Blanks ∷ []) (λ end. (this ≡ this) × (end ≡ [])) bytes
    named this bytes (gap, a, whole, gap_is, (word, b, a_is, name_is, (blanks, end, b_is, are, ends))) =
        (gap, a, whole, gap_is, (word, b, a_is, name_is, (blanks, end, b_is, are, (refl, ends))))

no_bad_maybe : (name : Option (List ℕ)) (rest : List ℕ) → AllByRecursion IsBounded (name_to_end name) → IsMadeOf (name_to_end name) rest
    → (kind : BadToken) (left : ℕ) → ¬ BadMaybe kind left rest
no_bad_maybe None rest within made kind left = λ bad. bads_apart kind left rest made (bad_cases kind left rest bad)
no_bad_maybe (Some name) rest within made kind left = λ bad.
    no_bad_within every name_end refl (tt, (name, (tt, tt))) (tt, (tt, (tt, tt))) within IsEnd line_end.end_halts NoBad kind left
    (λ class is bytes none. absurd none) (λ bytes end none. none) rest made (bad_cases kind left rest bad)

-- ---- every last part

pub last_closes : (kind : LastPart) → Closes no_blanks (SomeLast kind) (BadInLast kind)
last_closes lasts.End = end_closes
last_closes lasts.Pairs = pairs_close
last_closes lasts.MaybeName = maybe_closes
last_closes lasts.Viewed = views_close
last_closes lasts.Query = queries_close

-- The same bytes are of one content.
pub one_last : (kind : LastPart) (one two : LastContentOf kind) (rest : List ℕ) → LastIs kind one rest → LastIs kind two rest → two ≡ one
one_last lasts.End one two rest made other = refl
one_last lasts.Pairs one two rest made other = pairs_agree one two rest made other
one_last lasts.MaybeName one two rest made other = maybe_agrees one two rest made other
one_last lasts.Viewed one two rest made other = views_agree one two rest made other
one_last lasts.Query one two rest made other = queries_agree one two rest made other

-- What stands last within its bounds leaves no bad token.
pub last_no_bad : (kind : LastPart) → is_query kind ≡ false → (last : LastContentOf kind) → AllByRecursion IsBounded (last_parts kind last)
    → (token : BadToken) (left : ℕ) (rest : List ℕ) → LastIs kind last rest → ¬ BadInLast kind token left rest
last_no_bad lasts.End plain last within token left rest made = λ (other, bad). end_no_bad token left rest bad
last_no_bad lasts.Pairs plain pairs within token left rest made = no_bad_pairs pairs rest within made token left
last_no_bad lasts.MaybeName plain name within token left rest made = no_bad_maybe name rest within made token left
last_no_bad lasts.Viewed plain viewed within token left rest made = no_bad_views viewed rest within made token left
last_no_bad lasts.Query plain last within token left rest made = cc

pub some_last : (kind : LastPart) → LastContentOf kind
some_last lasts.End = tt
some_last lasts.Pairs = []
some_last lasts.MaybeName = None
some_last lasts.Viewed = views.Names
some_last lasts.Query = commands.Blank

-- What stands last, by its parts.
pub last_made : (kind : LastPart) → is_query kind ≡ false → (last : LastContentOf kind) (rest : List ℕ) → LastIs kind last rest
    → IsMadeOf (last_parts kind last) rest
last_made lasts.Query plain last rest at = cc
last_made kind plain last rest at = at

pub made_last : (kind : LastPart) → is_query kind ≡ false → (last : LastContentOf kind) (rest : List ℕ) → IsMadeOf (last_parts kind last) rest
    → LastIs kind last rest
made_last lasts.Query plain last rest at = cc
made_last kind plain last rest at = at

pub bad_last : (kind : LastPart) → is_query kind ≡ false → (token : BadToken) (left : ℕ) (rest : List ℕ) → BadInLast kind token left rest
    → BadInOne (last_parts kind) token left rest
bad_last lasts.Query plain token left rest bad = cc
bad_last kind plain token left rest bad = bad

pub last_bad : (kind : LastPart) → is_query kind ≡ false → (token : BadToken) (left : ℕ) (rest : List ℕ) → BadInOne (last_parts kind) token left rest
    → BadInLast kind token left rest
last_bad lasts.Query plain token left rest bad = cc
last_bad kind plain token left rest bad = bad

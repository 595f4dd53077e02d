-- What a station's own facts give.
use Rattle.std.proofs.Common.{◌≡◌, ℕ, zero, suc, ◌<◌, List, [], ◌∷◌, ◌++◌, map, length, get_or, take, set, replicate, sym, refl, ap, ◌∙◌, subst, arith, get_or-set_other, get_or-set_same}
use lib.ListN.{length-map}
use lib.Seq.{map-set}
use Rattle.std.proofs.lemmas.List.{get_or-map}
use Rattle.table.specs.Model.{content}
use Rattle.table.specs.Rules.{task_count}
use Rattle.table.proofs.Tables.{table_checked}
use Rattle.table.proofs.Ranges.{count_ranges}
use Rattle.policy.specs.Order.{Order}
use Rattle.theory.specs.Machine.{Call, Answer, play, start, answer}
use Rattle.theory.specs.Machine as machine
use Rattle.dispatch.specs.Put.{Put}
use Rattle.dispatch.specs.Lines.{board, line_summary}
use Rattle.dispatch.specs.Represents.{Represents, Answered}
use Rattle.dispatch.specs.Summaries.{Summary, no_summary}
use Rattle.dispatch.specs.declared.line.Line.{Line}
use Rattle.dispatch.specs.declared.station.Station.{Station}
use Rattle.dispatch.proofs.Agreement.{Plain}
use Rattle.dispatch.proofs.Queues.{queue_plain}
use Rattle.dispatch.proofs.Ties.{Next}

-- a task of the table has a line
pub in_room : (d : Station) (j : ℕ) → j < task_count (content d.table) → j < 24
in_room d j h = omega (arith, (count_ranges (content d.table) (table_checked d.table)).1)

-- the line that is read says what the board has there
pub read_is : (ls : List Line) (j : ℕ) (l : Line) → j < length ls → line_summary (get_or ls j l) ≡ board ls j
read_is ls j l h = sym (get_or-map line_summary ls j l no_summary h)

pub written_here : (ls : List Line) (j : ℕ) (l : Line) → j < length ls → board (set ls j l) j ≡ line_summary l
written_here ls j l h = ap (λ us. get_or us j no_summary) (map-set line_summary ls j l) ∙ get_or-set_same (map line_summary ls) j (line_summary l) no_summary (omega (arith, length-map ls line_summary))

pub written_others : (ls : List Line) (j : ℕ) (l : Line) (k : ℕ) → (k ≡ j → ⊥) → board (set ls j l) k ≡ board ls k
written_others ls j l k ne = ap (λ us. get_or us k no_summary) (map-set line_summary ls j l) ∙ get_or-set_other (map line_summary ls) j k (line_summary l) no_summary ne

-- from one station to the next under the same table
pub answered_next : (d e : Station) (o : Order) (calls : List Call) (c : Call) (given : Answer) → e.table ≡ d.table → Next (content d.table) o calls c e.time (board e.lines) e.stage given → Answered o e (calls ++ (c ∷ [])) × (given ≡ answer (content d.table) o (play (content d.table) o start calls) c)
answered_next d e o calls c given same next = (subst (λ t. Represents (content t) e.time (board e.lines) e.stage (play (content t) o start (calls ++ (c ∷ [])))) (sym same) next.stands, next.tells)

-- only the first job of a line has run
pub boards_plain : (ls : List Line) (j : ℕ) → Plain (board ls j).waiting
boards_plain [] j p ps e q m = let z : ◌≡◌ {A = ℕ} 0 1 = cc in absurd (omega arith)
boards_plain (l ∷ ls) zero p ps e q m = queue_plain l.ran (take l.len l.releases) p ps e q m
boards_plain (l ∷ ls) (suc j) p ps e q m = boards_plain ls j p ps e q m

-- lines in which no job ever waited
pub boards_none : (n : ℕ) (l : Line) → line_summary l ≡ no_summary → (j : ℕ) → board (replicate n l) j ≡ no_summary
boards_none zero l e j = refl
boards_none (suc n) l e zero = e
boards_none (suc n) l e (suc j) = boards_none n l e j

-- a station that has only written a line
pub answered_put : (d e : Station) (j : ℕ) (u : Summary) (o : Order) (calls : List Call) (c : Call) → Put d e j u → Next (content d.table) o calls c d.time (board e.lines) d.stage (machine.Released d.time)
    → Answered o e (calls ++ (c ∷ [])) × (machine.Released e.time ≡ answer (content d.table) o (play (content d.table) o start calls) c)
answered_put d e j u o calls c put next = answered_next d e o calls c (machine.Released e.time) put.table
    (subst (λ n. Next (content d.table) o calls c n (board e.lines) e.stage (machine.Released n)) (sym put.time)
    (subst (λ g. Next (content d.table) o calls c d.time (board e.lines) g (machine.Released d.time)) (sym put.stage) next))

use Rattle.std.proofs.Common.{◌≡◌, ◌≤◌, [], length, take, replicate, Ok, sym, subst, ◌∙◌, rules, arith, length-take-le}
use Rattle.std.proofs.lemmas.Result.{err_from_is_err_and}
use Rattle.table.specs.Model.{content, Built}
use Rattle.tablefile.specs.Format.{header_at, tasks_at}
use Rattle.tablefile.proofs.Files.{header_refused, few_tasks, tasks_refused, file_built, is_built}
use Rattle.tablefile.proofs.whole.table_of.Goals as goal
use Rattle.tablefile.proofs.whole.table_of.Goals.{In_ok-header}

head : (c : In_ok-header) → Ok c.in_ok-header.header ≡ header_at c.args.bytes.now 0
head c = c.in_ok-header.ensures.value ∙ (λ j. header_at (c.new-reader.ensures.input j) (c.new-reader.ensures.place j))

-- the reader stands behind the header
input : (c : In_ok-header) → c.args.bytes.now ≡ c.read_header.new.self.src.now
input c = search rules

place : (c : In_ok-header) → 6 ≡ c.read_header.new.self.pos
place c = search rules

pub returns-in_err-header : goal.returns-in_err-header
returns-in_err-header c =
    let p = err_from_is_err_and c.from_residual.result c.from_residual.ensures.1 in
    rw (p.1, p.2) (header_refused c.args.bytes.now c.in_err-header.field-0.0 (c.in_err-header.ensures.value ∙ (λ j. header_at (c.new-reader.ensures.input j) (c.new-reader.ensures.place j))))

pub slice_bounds-tasks-end : goal.slice_bounds-tasks-end
slice_bounds-tasks-end c =
    let few : c.in_ok-header.header.count ≤ 24 = few_tasks c.args.bytes.now c.in_ok-header.header (head (goal.at.slice_bounds-tasks-end c).In_ok-header) (λ i. omega (arith, c.type_inv.bytes i)) in
    sym (length-take-le c.in_ok-header.header.count (replicate 24 c.fresh-room.result) few)

pub returns-in_err-read_tasks : goal.returns-in_err-read_tasks
returns-in_err-read_tasks c =
    let p = err_from_is_err_and c.from_residual-in_err-read_tasks.result c.from_residual-in_err-read_tasks.ensures.1 in
    let n = c.in_ok-header.header.count in
    let h = (goal.at.returns-in_err-read_tasks c).In_ok-header in
    let few : n ≤ 24 = few_tasks c.args.bytes.now c.in_ok-header.header (head h) (λ i. omega (arith, c.type_inv.bytes i)) in
    let long : n ≡ length (take n (replicate 24 c.fresh-room.result)) = sym (length-take-le n (replicate 24 c.fresh-room.result) few) in
    rw (p.1, p.2) (tasks_refused c.args.bytes.now c.in_ok-header.header (head h) c.in_err-read_tasks.field-0.0 ((λ j. tasks_at (input h j) (long j) (long j) [] (place h j)) ∙ c.in_err-read_tasks.ensures))

pub unwrap-requires : goal.unwrap-requires
unwrap-requires c =
    let n = c.in_ok-header.header.count in
    let h = (goal.at.unwrap-requires c).In_ok-header in
    let few : n ≤ 24 = few_tasks c.args.bytes.now c.in_ok-header.header (head h) (λ i. omega (arith, c.type_inv.bytes i)) in
    let long : n ≡ length (take n (replicate 24 c.fresh-room.result)) = sym (length-take-le n (replicate 24 c.fresh-room.result) few) in
    is_built c.args.bytes.now c.in_ok-header.header (head h) c.read_tasks.new.room ((λ j. tasks_at (input h j) (long j) (long j) [] (place h j)) ∙ c.in_ok-read_tasks.ensures) (λ i. omega (arith, c.type_inv.bytes i)) c.new.result c.new.ensures

pub returns : goal.returns
returns c =
    let n = c.in_ok-header.header.count in
    let h = (goal.at.returns c).In_ok-header in
    let few : n ≤ 24 = few_tasks c.args.bytes.now c.in_ok-header.header (head h) (λ i. omega (arith, c.type_inv.bytes i)) in
    let long : n ≡ length (take n (replicate 24 c.fresh-room.result)) = sym (length-take-le n (replicate 24 c.fresh-room.result) few) in
    let built = subst (Built _) c.unwrap.ensures c.new.ensures in
    file_built c.args.bytes.now c.in_ok-header.header (head h) c.read_tasks.new.room ((λ j. tasks_at (input h j) (long j) (long j) [] (place h j)) ∙ c.in_ok-read_tasks.ensures) (content c.unwrap.result) built.1

-- What every course keeps of its releases, whatever the order: each is of a task of the table, and those of one task are at least T apart.
use Rattle.std.proofs.Common.{◌≡◌, ◌+◌, ◌<◌, Bool, false, ◌⊎◌, List, Some, None, Option, sym, ap, ◌∙◌, subst, inl, inr}
use Rattle.table.specs.Rules.{TaskSet, task_count}
use Rattle.policy.specs.Order.{Order}
use Rattle.theory.specs.Lists.{In}
use Rattle.theory.specs.Machine.{Work, State, Call, release, tick, look, refusal, accept, start, play, run_in, waiting, job_to_run}
use Rattle.theory.proofs.Courses.{step_keeps, play_keeps}
use Rattle.theory.proofs.MachineFacts.{Spaced, spaced_map, Free, released_free}
use Rattle.theory.proofs.Search.{from_map}
use Rattle.theory.proofs.Works.{given, given_task}

pub record Placed (s : TaskSet) (st : State) : Type 0 where
  pub known : (w : Work) → In w st.jobs → w.task < task_count s
  pub spaced : Spaced s st.jobs

module _ (s : TaskSet) (o : Order) where
  placed_ran : (st : State) (done : Bool) → Placed s st → (r : Option Work) → Placed s (record { time = st.time + 1; jobs = run_in s done (st.time + 1) r st.jobs })
  placed_ran st done f None = record { known = f.known; spaced = f.spaced }
  placed_ran st done f (Some x) = record { known = λ w m. known w (from_map (given s done (st.time + 1) x) st.jobs w m); spaced = spaced_map s done (st.time + 1) x st.jobs f.spaced }
    where
      known : (w : Work) → (u : Work) × In u st.jobs × (w ≡ given s done (st.time + 1) x u) → w.task < task_count s
      known w (u, m, q) = subst (λ z. z < task_count s) (sym (ap (λ z. z.task) q ∙ given_task s done (st.time + 1) x u)) (f.known u m)

  placed_accept : (st : State) (c : Call) → Placed s st → refusal s st c ≡ None → Placed s (accept s o st c)
  placed_accept st (release j) f h = record { known = λ w m. known w m; spaced = (λ v m e. free.rested v m e, f.spaced) }
    where
      free : Free s st j
      free = released_free s st j h

      new : Work
      new = record { task = j; release = st.time; ran = 0; finished = false; response = 0 }

      known : (w : Work) → (w ≡ new) ⊎ In w st.jobs → w.task < task_count s
      known w (inl e) = subst (λ z. z.task < task_count s) (sym e) free.task_here
      known w (inr m) = f.known w m
  placed_accept st (tick done) f h = placed_ran st done f (job_to_run s.mode o (waiting st))
  placed_accept st (look j) f h = f

  pub placed_after : (cs : List Call) → Placed s (play s o start cs)
  placed_after cs = play_keeps s o (Placed s) (λ st c f. step_keeps s o (Placed s) st c f (placed_accept st c f)) start cs (record { known = λ w m. absurd m; spaced = tt })

-- Re-exports the definitions that contracts of other crates cite. It declares nothing.
pub use Rattle.flash_laws.specs.Answers.{keeps}
pub use Rattle.flash_laws.specs.Answers.Scripts.{end_around, frame_of, place_in_frame, script_text}
pub use Rattle.flash_laws.specs.Client.{Client, new_client}
pub use Rattle.flash_laws.specs.Client.Wants.{makes_bytes}
pub use Rattle.flash_laws.specs.Conn.{Conn, IsAwaiting, count_of}
pub use Rattle.flash_laws.specs.Conn.Policy.{is_later}
pub use Rattle.flash_laws.specs.Conn.Wants.{can_begin, has_bytes}
pub use Rattle.flash_laws.specs.Run.{is_over, after_part}
pub use Rattle.flash_laws.specs.Run.Wants.{makes_any}
pub use Rattle.flash_laws.specs.Serves.{Server, received_of, new_server}
pub use Rattle.flash_laws.specs.Serves.Rounds.{goes_in, in_rounds, next_in}
pub use Rattle.flash_laws.specs.Serves.Wants.{WantsFrom, WantsPlace, server_wants}
pub use Rattle.flash_laws.specs.Site.Places.{NoneRuns, runs_scripts}
pub use Rattle.flash_laws.specs.Site.OtherConns.{grown, with_at}
pub use Rattle.flash_laws.specs.Workers.{IsExpectedOf, IsFreeFor}
pub use Rattle.flash_laws.specs.Workers.OwnWorkers.{IsShared}
pub use Rattle.flash_laws.specs.World.{RunKeepsConsistency, StepKeepsConsistency, ConsistentAtFirst}
pub use Rattle.flash_laws.specs.World.{ConsistentIsAnswered, ConsistentIsWhole}
pub use Rattle.flash_laws.specs.World.Done.{IdleIsDone}
pub use Rattle.flash_laws.specs.World.Host.{HostIsRight}
pub use Rattle.flash_laws.specs.World.Idle.{actor_quiescent}
pub use Rattle.flash_laws.specs.World.Quiesces.{ActorsQuiesce}
pub use Rattle.flash_laws.specs.World.Consistency.{Actor, Serving, actor_turns, actor_wants, server_transitions}

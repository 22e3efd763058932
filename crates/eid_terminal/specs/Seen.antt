-- What contracts see of a terminal.
use Rattle.eid_terminal.specs.declared.terminal.Terminal.{Terminal}
use Rattle.eid_terminal.specs.Plans.{plan_view}
use Rattle.eid_terminal.specs.Terminals.{TerminalView}
use Rattle.eid_terminal.specs.View.{state_view}

-- where it stands
unfoldable pub terminal_view : Terminal → TerminalView
terminal_view t = state_view (plan_view t.plan) t.channel t.state

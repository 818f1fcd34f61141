use Rattle.py_grammar.specs.Script.{decls_of}
use Rattle.py_script.proofs.Sessions.{loaded_session, session_runs}
use Rattle.py_script.proofs.loading.load_script.Goals as goal

pub returns-clause-session : goal.returns-clause-session
returns-clause-session c = loaded_session (decls_of c.args.script.now) c.in_ok-session.session c.in_ok-session.ensures.loaded

pub returns-clause-runs : goal.returns-clause-runs
returns-clause-runs c = session_runs (decls_of c.args.script.now) _ c.in_ok-session.session (loaded_session (decls_of c.args.script.now) c.in_ok-session.session c.in_ok-session.ensures.loaded)

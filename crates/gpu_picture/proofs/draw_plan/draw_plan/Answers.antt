use Rattle.gpu_picture.proofs.draw_plan.draw_plan.Goals as goal

pub returns-in_ok-draw_solved-in-Solved : goal.returns-in_ok-draw_solved-in-Solved
returns-in_ok-draw_solved-in-Solved g c =
    rw c.in-Open.is (c.in-Solved.solved, c.in-Solved.ensures, rw c.listed.ensures at c.in_ok-draw_solved-in-Solved.ensures)

mod StepAnswered
